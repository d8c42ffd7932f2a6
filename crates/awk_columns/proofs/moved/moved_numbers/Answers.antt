-- The lane in bytes is the lane.
use Rattle.std.proofs.Common.{◌≡◌, ◌<◌, ◌^◌, sym, subst}
use Rattle.std.specs.Prelude.{IfOk}
use Rattle.awk_lanes.specs.Column.{Column}
use Rattle.awk_lanes.specs.Places.{size_of, AreSpans}
use Rattle.awk_counts.specs.Counted.{numbers_at, spans}
use Rattle.awk_columns.proofs.moved.moved_numbers.Goals as goal

pub moved_bytes-requires-clause-spans : goal.moved_bytes-requires-clause-spans
moved_bytes-requires-clause-spans g c =
    subst (λ (v : Column). AreSpans c.args.starts.now c.args.stops.now (size_of v))
    (sym c.in_ok-bytes.ensures) c.requires.spans

pub moved_bytes-requires-clause-small : goal.moved_bytes-requires-clause-small
moved_bytes-requires-clause-small g c =
    subst (λ (v : Column). size_of v < 2 ^ 63) (sym c.in_ok-bytes.ensures) c.requires.small

pub returns : goal.returns
returns g c =
    subst (λ (v : Column). IfOk c.moved_bytes.result (λ r.
    r ≡ numbers_at v (spans c.args.starts.now c.args.stops.now))) c.in_ok-bytes.ensures
    c.moved_bytes.ensures
