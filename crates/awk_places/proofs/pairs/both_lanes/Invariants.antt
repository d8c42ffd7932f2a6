use Rattle.std.specs.Prelude.{◌≡◌}
use Rattle.std.specs.List.{flat_map, range_with_len}
use Rattle.awk_places.specs.Begun.{first_places, second_places}
use Rattle.awk_places.proofs.pairs.both_lanes.Given as goal

abbrev pub invariant-loop-i : goal.invariant-loop-i
invariant-loop-i g l = record {
  first : l.first ≡ flat_map (first_places l.fn.replacement l.fn.firsts l.fn.ends)
      (range_with_len 0 l.i);
  second : l.second ≡ flat_map (second_places l.fn.replacement l.fn.firsts l.fn.ends)
      (range_with_len 0 l.i);
}
