use Rattle.std.proofs.Common.{◌≡◌, ◌==◌, take, drop, true}
use Rattle.std.specs.List.{list_all}
use Rattle.awk_pair_operands.specs.First.{all_data, array_lengths, AreRowColumns}
use Rattle.awk_pair_operands.proofs.first.row_columns.Given as goal

abbrev pub invariant-loop-i : goal.invariant-loop-i
invariant-loop-i g l = record {
  long : list_all (λ m. l.n == m) (array_lengths (drop l.i l.xs)) ≡ true;
  made : AreRowColumns l.n (all_data (take l.i l.xs)) l.arrays;
}
