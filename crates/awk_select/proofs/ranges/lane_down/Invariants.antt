use Rattle.std.specs.Prelude.{◌-◌, ◌*◌, suc, pos}
use Rattle.awk_lanes.specs.declared.kind.Kind.TheVariants.{I64}
use Rattle.awk_lanes.proofs.MadeLanes.{IsSoFar}
use Rattle.awk_select.proofs.ranges.lane_down.Given as goal

abbrev pub invariant-loop-j : goal.invariant-loop-j
invariant-loop-j l = IsSoFar I64 l.n (λ j. pos (l.lo - suc (j * l.step))) l.j l.maker
