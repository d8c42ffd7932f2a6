use Rattle.std.specs.Prelude.{◌≡◌, take}
use Rattle.std.specs.List.{flat_map}
use Rattle.awk_places.specs.Begun.{places_of}
use Rattle.awk_places.proofs.begun.last_lane.Given as goal

abbrev pub invariant-loop-i : goal.invariant-loop-i
invariant-loop-i l = l.made ≡ flat_map places_of (take l.i l.begun)
