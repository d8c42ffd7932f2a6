-- The numbers are those that the lane holds.
use Rattle.std.proofs.Common.{◌≡◌, ◌≢◌, ◌+◌, ap, sym, subst, ◌∙◌}
use Rattle.std.specs.Prelude.{IfOk}
use Rattle.awk_lanes.specs.Column.{Column}
use Rattle.awk_lanes.specs.Places.{size_of}
use Rattle.awk_lanes.specs.declared.kind.Kind.TheVariants.{U64}
use Rattle.awk_lanes.proofs.RunLaws.{seen_bytes, seen_run}
use Rattle.awk_index.proofs.numbers.numbers_of.Goals as goal

pub numbers_by_bytes-requires : goal.numbers_by_bytes-requires
numbers_by_bytes-requires g c =
    subst (λ (v : Column). v.kind ≢ U64)
    (sym (seen_bytes _ c.in-Bytes.bytes c.args.lane.now c.in-Bytes.is c.held.ensures)) c.requires

pub returns-in-Bytes : goal.returns-in-Bytes
returns-in-Bytes g c =
    let same = seen_bytes _ c.in-Bytes.bytes c.args.lane.now c.in-Bytes.is c.held.ensures in
    record {
      numbers = subst (λ (v : Column). IfOk c.numbers_by_bytes.result (λ x. x.items ≡ v.items)) same
          c.numbers_by_bytes.ensures.numbers;
      cost = c.numbers_by_bytes.ensures.cost ∙ ap (λ (v : Column). c.args.steps.now + size_of v)
          same;
    }

pub returns-in-Run : goal.returns-in-Run
returns-in-Run g c =
    let same = seen_run _ c.in-Run.places c.args.lane.now c.in-Run.is c.held.ensures in
    record {
      numbers = subst (λ (v : Column). IfOk c.numbers.result (λ x. x.items ≡ v.items)) same
          c.numbers.ensures.numbers;
      cost = c.numbers.ensures.cost ∙ ap (λ (v : Column). c.args.steps.now + size_of v) same;
    }
