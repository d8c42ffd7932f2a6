use Rattle.std.specs.Prelude.{◌≡◌, ◌≤◌, length}
use Rattle.awk_counts.specs.Counted.{first_of, span_at}
use Rattle.awk_columns.proofs.spans.total.Given as goal

abbrev pub invariant-loop-i : goal.invariant-loop-i
invariant-loop-i l = record {
  total : l.sum ≡ length (first_of (span_at l.starts l.stops) l.i);
  few : l.sum ≤ l.limit;
}
