use Rattle.std.proofs.Common.{◌≡◌, [], map, length}
use Rattle.std.specs.Prelude.{vec_len, vec_capacity}
use Rattle.std.specs.List.{range_with_len}
use Rattle.awk_lane_pairs.specs.Groups.{chosen_item}
use Rattle.awk_lane_pairs.proofs.groups.chosen_groups.Given as goal

abbrev pub invariant-loop-i : goal.invariant-loop-i
invariant-loop-i g l = record {
  end : l.i-end ≡ length l.mask;
  count : vec_len l.groups ≡ l.i;
  room : vec_capacity l.groups ≡ length l.mask;
  items : l.groups.items ≡ map (chosen_item l.mask l.first l.second []) (range_with_len 0 l.i);
}
