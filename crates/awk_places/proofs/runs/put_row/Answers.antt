-- Where there are no places, nothing is added.
use Rattle.std.proofs.Common.{◌++◌, ap, sym, ◌∙◌, arith}
use Rattle.std.proofs.lemmas.List.{append-nil}
use Rattle.awk_lanes.specs.Places.{place_at}
use Rattle.awk_places.proofs.RunLaws.{runs_never, runs_nowhere}
use Rattle.awk_places.proofs.runs.put_row.Goals as goal

pub returns-then-after-eq0 : goal.returns-then-after-eq0
returns-then-after-eq0 g c =
    sym (ap (λ ks. c.args.made.now ++ ks)
    (runs_never (place_at c.args.slot.now.before.now c.args.i)
    (place_at c.args.slot.now.after.now c.args.i) (place_at c.args.slot.now.firsts.now c.args.i)
    (place_at c.args.slot.now.lengths.now c.args.i)
    (omega (arith, c.if-after-eq0.true, c.place_of-after.ensures.value)))
    ∙ append-nil c.args.made.now)

pub returns-then-length-eq0 : goal.returns-then-length-eq0
returns-then-length-eq0 g c =
    sym (ap (λ ks. c.args.made.now ++ ks)
    (runs_nowhere (place_at c.args.slot.now.before.now c.args.i)
    (place_at c.args.slot.now.after.now c.args.i) (place_at c.args.slot.now.firsts.now c.args.i)
    (place_at c.args.slot.now.lengths.now c.args.i)
    (omega (arith, c.if-length-eq0.true, c.place_of-length.ensures.value)))
    ∙ append-nil c.args.made.now)
