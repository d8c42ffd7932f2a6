use Rattle.std.proofs.Common.{◌≡◌, map, length}
use Rattle.std.specs.Prelude.{vec_len, vec_capacity}
use Rattle.std.specs.List.{range_with_len}
use Rattle.awk_gather_lanes.specs.Moved.{group_past}
use Rattle.awk_gather_lanes.proofs.moved.groups_past.Given as goal

abbrev pub invariant-loop-i : goal.invariant-loop-i
invariant-loop-i g l = record {
  end : l.i-end ≡ length l.places;
  count : vec_len l.moved ≡ l.i;
  room : vec_capacity l.moved ≡ length l.places;
  items : l.moved.items ≡ map (group_past l.distance l.groups l.places) (range_with_len 0 l.i);
}
