use Rattle.awk_counts.specs.Counted.{first_of, present_at}
use Rattle.awk_present.proofs.TakenLanes.{AreTaken}
use Rattle.awk_present.proofs.named.read_named.Given as goal

abbrev pub invariant-loop-i : goal.invariant-loop-i
invariant-loop-i g l = AreTaken l.lane l.n (first_of (present_at l.index) l.i) l.maker
