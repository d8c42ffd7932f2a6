use Rattle.std.specs.Prelude.{◌≡◌, ℕ, ◌<◌, false}
use Rattle.awk_select.specs.Kept.{Puts}
use Rattle.awk_jagged_places.specs.Leaves.{take_at, is_outside_at}
use Rattle.awk_jagged_places.proofs.PutLaws.{first_numbers}
use Rattle.awk_jagged_places.proofs.places.TakenNumberLists.put_list.Given as goal

-- the numbers of the items before this one are put, and none of them is refused
abbrev pub invariant-loop-k : goal.invariant-loop-k
invariant-loop-k g l = record {
  put : Puts (first_numbers (take_at l.self.xs.now l.self.ws.now l.i) l.k) l.fn.maker l.maker;
  tested : (j : ℕ) → j < l.k → is_outside_at l.self.xs.now l.self.ws.now l.i j ≡ false;
}
