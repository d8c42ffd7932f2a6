use Rattle.std.specs.Prelude.{◌≡◌, ◌+◌, ◌++◌, length, vec_len, vec_capacity}
use Rattle.awk_jagged_places.specs.Leaves.{mask_first}
use Rattle.awk_jagged_places.proofs.BesideLaws.{groups_first}
use Rattle.awk_jagged_places.proofs.beside.Beside.put_list.Given as goal

-- what the items before this one give is put
abbrev pub invariant-loop-k : goal.invariant-loop-k
invariant-loop-k g l = record {
  items : l.made.items
      ≡ l.fn.made.items ++ groups_first l.self.xs.now l.self.ws.now l.groups l.i l.k;
  count : vec_len l.made
      ≡ vec_len l.fn.made + length (mask_first l.self.xs.now l.self.ws.now l.i l.k);
  capacity : vec_capacity l.made ≡ vec_capacity l.fn.made;
}
