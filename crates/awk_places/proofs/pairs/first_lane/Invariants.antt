use Rattle.std.specs.Prelude.{◌≡◌, take}
use Rattle.std.specs.List.{flat_map}
use Rattle.awk_places.specs.Begun.{pair_firsts}
use Rattle.awk_places.proofs.pairs.first_lane.Given as goal

abbrev pub invariant-loop-i : goal.invariant-loop-i
invariant-loop-i l = l.made ≡ flat_map (pair_firsts l.replacement) (take l.i l.begun)
