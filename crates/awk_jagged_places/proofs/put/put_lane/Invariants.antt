use Rattle.std.specs.Prelude.{ℕ, ◌<◌, false}
use Rattle.awk_jagged_places.proofs.PutLaws.{AreMade}
use Rattle.awk_jagged_places.proofs.put.put_lane.Given as goal

-- the lists before this one are put, and no item of them is refused
abbrev pub invariant-loop-i : goal.invariant-loop-i
invariant-loop-i g l = record {
  made : AreMade (g.S.NumberLists.numbers l.source) l.total l.i l.maker;
  tested : (j : ℕ) → j < l.i → g.S.NumberLists.IsTested l.source j false;
}
