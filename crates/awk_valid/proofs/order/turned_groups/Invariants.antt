use Rattle.std.proofs.Common.{◌≡◌, map, take, length}
use Rattle.std.specs.Prelude.{vec_len, vec_capacity, reverse}
use Rattle.awk_valid.proofs.order.turned_groups.Given as goal

-- the groups before place i are turned
abbrev pub invariant-loop-i : goal.invariant-loop-i
invariant-loop-i g l = record {
  end : l.i-end ≡ length l.groups;
  count : vec_len l.turned ≡ l.i;
  room : vec_capacity l.turned ≡ length l.groups;
  items : l.turned.items ≡ map reverse (take l.i l.groups);
}
