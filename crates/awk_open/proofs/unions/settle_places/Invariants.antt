use Rattle.awk_lanes.specs.declared.kind.Kind.TheVariants as Kind
use Rattle.awk_lanes.specs.Places.{size_of}
use Rattle.awk_open.specs.Settled.{settled_place}
use Rattle.awk_lanes.proofs.MadeLanes.{IsSoFar}
use Rattle.awk_open.proofs.unions.settle_places.Given as goal

abbrev pub invariant-loop-i : goal.invariant-loop-i
invariant-loop-i g l =
    IsSoFar Kind.I64 (size_of l.index) (settled_place l.index l.other) l.i l.maker
