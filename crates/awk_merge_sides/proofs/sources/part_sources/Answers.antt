use Rattle.std.proofs.lemmas.Result.{IfOk-weaker}
use Rattle.awk_unify.specs.View.{lift_of, lifts_of}
use Rattle.awk_merge_sides.specs.Lifts.{part_source, source_at, AreSources}
use Rattle.awk_merge_sides.proofs.LiftLaws.{sources-Parts}
use Rattle.awk_merge_sides.proofs.sources.part_sources.Goals as goal

pub returns-in-Parts : goal.returns-in-Parts
returns-in-Parts c =
    let ps = c.in-Parts.places in
    let fs = c.in-Parts.parts in
    let n = c.args.n in
    IfOk-weaker c.placed_sources.result
    (λ v. AreSources (λ j. source_at j ps (lifts_of fs)) n v.items)
    (λ v. AreSources (part_source (lift_of c.args.f.now)) n v.items)
    (λ v h. sources-Parts c.args.f.now ps fs n v.items c.in-Parts.is h)
    c.placed_sources.ensures
