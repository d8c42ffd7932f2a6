use Rattle.std.specs.Prelude.{◌≡◌}
use Rattle.std.specs.List.{flat_map, range_with_len}
use Rattle.awk_places.specs.Runs.{slot_runs}
use Rattle.awk_places.proofs.runs.slot_lane.Given as goal

abbrev pub invariant-loop-i : goal.invariant-loop-i
invariant-loop-i g l = l.made ≡ flat_map (slot_runs l.slot) (range_with_len 0 l.i)
