use Rattle.awk_lanes.specs.declared.kind.Kind.TheVariants as Kind
use Rattle.awk_lanes.specs.Numbers.{int_of}
use Rattle.awk_lanes.proofs.MadeLanes.{IsSoFar}
use Rattle.awk_spread.proofs.spread.repeated.Given as goal

abbrev pub invariant-loop-i : goal.invariant-loop-i
invariant-loop-i l = IsSoFar Kind.I64 l.n (λ i. int_of l.x) l.i l.maker
