use Rattle.awk_lanes.specs.declared.kind.Kind.TheVariants as Kind
use Rattle.awk_lanes.specs.Places.{size_of}
use Rattle.awk_spread.specs.Spread.{joined_tags}
use Rattle.awk_lanes.proofs.MadeLanes.{IsSoFar}
use Rattle.awk_spread.proofs.spread.join_tags.Given as goal

abbrev pub invariant-loop-i : goal.invariant-loop-i
invariant-loop-i g l =
    IsSoFar Kind.I64 (size_of l.new) (joined_tags l.old l.tags l.new l.base) l.i l.maker
