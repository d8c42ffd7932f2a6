use Rattle.awk_lanes.specs.declared.kind.Kind.TheVariants as Kind
use Rattle.awk_lanes.specs.Places.{size_of}
use Rattle.awk_spread.specs.Spread.{joined_index}
use Rattle.awk_lanes.proofs.MadeLanes.{IsSoFar}
use Rattle.awk_spread.proofs.spread.join_index.Given as goal

abbrev pub invariant-loop-i : goal.invariant-loop-i
invariant-loop-i g l = IsSoFar Kind.I64 (size_of l.new) (joined_index l.old l.new) l.i l.maker
