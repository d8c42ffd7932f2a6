-- The number is that which the lane holds.
use Rattle.std.proofs.Common.{rules, FitsSigned, w64, ◌≡◌, ◌<◌, ap, sym, subst, ◌∙◌}
use Rattle.std.proofs.lemmas.Int.{to_z-of_z}
use Rattle.awk_lanes.specs.Column.{Column}
use Rattle.awk_lanes.specs.Places.{size_of, at}
use Rattle.awk_lanes.specs.declared.kind.Kind.TheVariants.{I64}
use Rattle.awk_lanes.proofs.RunLaws.{seen_bytes, seen_run}
use Rattle.awk_lanes.proofs.readers.wide_at.Goals as goal

pub wide_at-requires-clause-kind : goal.wide_at-requires-clause-kind
wide_at-requires-clause-kind g c =
    subst (λ (v : Column). v.kind ≡ I64)
    (sym (seen_bytes _ c.in-Bytes.lane c.args.lane.now c.in-Bytes.is c.held.ensures))
    c.requires.kind

pub wide_at-requires-clause-within : goal.wide_at-requires-clause-within
wide_at-requires-clause-within g c =
    subst (λ (v : Column). c.args.i < size_of v)
    (sym (seen_bytes _ c.in-Bytes.lane c.args.lane.now c.in-Bytes.is c.held.ensures))
    c.requires.within

pub returns-in-Bytes-clause-value : goal.returns-in-Bytes-clause-value
returns-in-Bytes-clause-value g c =
    let f : FitsSigned w64 c.wide_at.result = search rules in
    to_z-of_z w64 c.wide_at.result f ∙ c.wide_at.ensures.value ∙ ap (λ (v : Column). at v c.args.i)
    (seen_bytes _ c.in-Bytes.lane c.args.lane.now c.in-Bytes.is c.held.ensures)

pub wide_at-requires-in-Run : goal.wide_at-requires-in-Run
wide_at-requires-in-Run g c =
    subst (λ (v : Column). c.args.i < size_of v)
    (sym (seen_run _ c.in-Run.places c.args.lane.now c.in-Run.is c.held.ensures)) c.requires.within

pub returns-in-Run-clause-value : goal.returns-in-Run-clause-value
returns-in-Run-clause-value g c =
    let f : FitsSigned w64 c.wide_at-in-Run.result = search rules in
    to_z-of_z w64 c.wide_at-in-Run.result f ∙ c.wide_at-in-Run.ensures.value ∙ ap (λ (v : Column). at v c.args.i)
    (seen_run _ c.in-Run.places c.args.lane.now c.in-Run.is c.held.ensures)
