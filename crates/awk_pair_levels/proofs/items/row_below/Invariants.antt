use Rattle.std.proofs.Common.{take, drop}
use Rattle.awk_pair_levels.specs.Single.{AllInside, AreItems}
use Rattle.awk_pair_levels.proofs.items.row_below.Given as goal

abbrev pub invariant-loop-j : goal.invariant-loop-j
invariant-loop-j g l = record {
  inside : AllInside l.i l.k (drop l.j l.shares);
  made : AreItems l.i l.k (take l.j l.shares) l.row;
}
