use Rattle.std.specs.Prelude.{◌+◌, ◌*◌}
use Rattle.awk_lanes.specs.Places.{at}
use Rattle.awk_lanes.proofs.MadeLanes.{IsSoFar}
use Rattle.awk_merge.proofs.joining_rows.offsets_of_rows.Given as goal

abbrev pub invariant-loop-i : goal.invariant-loop-i
invariant-loop-i g l = IsSoFar l.offsets.kind (l.n + 1) (λ i. at l.offsets (i * l.k)) l.i l.maker
