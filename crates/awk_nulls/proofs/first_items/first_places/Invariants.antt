use Rattle.std.specs.Prelude.{◌==◌, negsuc, if◌then◌else◌}
use Rattle.awk_lanes.specs.declared.kind.Kind.TheVariants as Kinds
use Rattle.awk_lanes.specs.Places.{size_of, at}
use Rattle.awk_lanes.proofs.MadeLanes.{IsSoFar}
use Rattle.awk_nulls.specs.Lanes.{span_length}
use Rattle.awk_nulls.proofs.first_items.first_places.Given as goal

abbrev pub invariant-loop-i : goal.invariant-loop-i
invariant-loop-i l = IsSoFar Kinds.I64 (size_of l.starts)
    (λ i. if span_length l.starts l.stops i == 0 then negsuc 0 else at l.starts i) l.i l.maker
