use Rattle.std.proofs.Common.{◌≡◌, map, length}
use Rattle.std.specs.Prelude.{vec_len, vec_capacity}
use Rattle.std.specs.List.{range_with_len}
use Rattle.awk_gather_lanes.specs.Moved.{narrow_group}
use Rattle.awk_gather_lanes.proofs.moved.narrow_groups.Given as goal

abbrev pub invariant-loop-i : goal.invariant-loop-i
invariant-loop-i l = record {
  end : l.i-end ≡ length l.places;
  count : vec_len l.moved ≡ l.i;
  room : vec_capacity l.moved ≡ length l.places;
  items : l.moved.items ≡ map (narrow_group l.places) (range_with_len 0 l.i);
}
