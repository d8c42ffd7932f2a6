use Rattle.std.proofs.Common.{◌≡◌, ◌+◌, ◌++◌, map}
use Rattle.std.specs.Prelude.{vec_len, vec_capacity}
use Rattle.std.specs.List.{range_with_len}
use Rattle.awk_lanes.specs.Counted.{before}
use Rattle.awk_list_numbers.specs.ListPlaces.{list_places, groups_at}
use Rattle.awk_list_numbers.proofs.moved.list_groups.Given as goal

abbrev pub invariant-loop-i : goal.invariant-loop-i
invariant-loop-i g l = record {
  count : vec_len l.moved ≡ before (g.S.Lengths.length l.source) l.i;
  room : vec_capacity l.moved ≡ l.total;
  items : l.moved.items ≡ groups_at l.groups
      (list_places (g.S.Lengths.length l.source) (g.S.Places.place l.source) l.i);
}

abbrev pub invariant-loop-k : goal.invariant-loop-k
invariant-loop-k g l = record {
  count : vec_len l.moved ≡ before (g.S.Lengths.length l.source) l.i + l.k;
  room : vec_capacity l.moved ≡ l.total;
  items : l.moved.items ≡ groups_at l.groups
      (list_places (g.S.Lengths.length l.source) (g.S.Places.place l.source) l.i
      ++ map (g.S.Places.place l.source l.i) (range_with_len 0 l.k));
}
