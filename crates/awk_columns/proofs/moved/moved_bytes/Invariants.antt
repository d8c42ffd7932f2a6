use Rattle.awk_counts.specs.Counted.{first_of, numbers_at, span_at}
use Rattle.awk_columns.proofs.MovedNumbers.{AreBytesOf}
use Rattle.awk_columns.proofs.moved.moved_bytes.Given as goal

abbrev pub invariant-loop-i : goal.invariant-loop-i
invariant-loop-i g l =
    AreBytesOf l.lane.kind (numbers_at l.lane (first_of (span_at l.starts l.stops) l.i)).items
    l.bytes.items
