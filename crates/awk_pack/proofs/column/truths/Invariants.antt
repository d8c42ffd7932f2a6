use Rattle.awk_lanes.specs.Places.{size_of, at}
use Rattle.awk_lanes.proofs.MadeLanes.{IsSoFar}
use Rattle.awk_pack.proofs.column.truths.Given as goal

abbrev pub invariant-loop-i : goal.invariant-loop-i
invariant-loop-i g l = IsSoFar l.lane.kind (size_of l.lane) (at l.lane) l.i l.maker
