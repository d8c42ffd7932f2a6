use Rattle.awk_lanes.specs.declared.kind.Kind.TheVariants as Kind
use Rattle.awk_lanes.specs.Places.{size_of, option_place_at}
use Rattle.awk_gather.specs.Peeled.{through}
use Rattle.awk_spread.specs.Spread.{alternative}
use Rattle.awk_lanes.proofs.MadeLanes.{IsSoFar}
use Rattle.awk_spread.proofs.spread.of_alternative.Given as goal

abbrev pub invariant-loop-i : goal.invariant-loop-i
invariant-loop-i g l =
    IsSoFar Kind.I64 (size_of l.places) (λ j. through (alternative l.tags l.index l.a)
    (option_place_at l.places j)) l.i l.maker
