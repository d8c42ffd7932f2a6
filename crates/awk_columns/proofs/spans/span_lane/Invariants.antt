use Rattle.std.specs.Prelude.{◌++◌}
use Rattle.std.specs.List.{range_with_len}
use Rattle.awk_counts.specs.Counted.{first_of, span_at}
use Rattle.awk_counts.proofs.PlaceLanes.{ArePlaces}
use Rattle.awk_columns.proofs.spans.span_lane.Given as goal

abbrev pub invariant-loop-i : goal.invariant-loop-i
invariant-loop-i l = ArePlaces l.n (first_of (span_at l.starts l.stops) l.i) l.maker

abbrev pub invariant-loop-k : goal.invariant-loop-k
invariant-loop-k l =
    ArePlaces l.n (first_of (span_at l.starts l.stops) l.i ++ range_with_len l.span.start l.k)
    l.maker
