use Rattle.awk_counts.specs.Counted.{first_of, present_at}
use Rattle.awk_counts.proofs.PlaceLanes.{ArePlaces}
use Rattle.awk_counts.proofs.present.present_lane.Given as goal

abbrev pub invariant-loop-i : goal.invariant-loop-i
invariant-loop-i l = ArePlaces l.n (first_of (present_at l.index) l.i) l.maker
