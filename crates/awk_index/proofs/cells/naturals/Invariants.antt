use Rattle.std.proofs.Common.{◌≡◌, map, take, length}
use Rattle.std.specs.Prelude.{vec_len, vec_capacity}
use Rattle.awk_index.proofs.cells.naturals.Given as goal

abbrev pub invariant-loop-i : goal.invariant-loop-i
invariant-loop-i g l = record {
  end : l.i-end ≡ length l.groups;
  count : vec_len l.numbers ≡ l.i;
  room : vec_capacity l.numbers ≡ length l.groups;
  items : l.numbers.items ≡ map g.C.Natural.number (take l.i l.groups);
}
