use Rattle.std.proofs.Common.{◌≡◌, ◌*◌, take}
use Rattle.std.specs.Prelude.{pos, neg_ℤ, ◌≤ℤ◌}
use Rattle.awk_kernels.specs.Kernels.{total}
use Rattle.awk_numbers.proofs.folds.sum.Given as goal

abbrev pub invariant-loop-i : goal.invariant-loop-i
invariant-loop-i g l = record {
  sum : l.sum ≡ total (take l.i (g.R.Row.numbers l.row));
  low : neg_ℤ (pos (l.i * 18446744073709551616)) ≤ℤ l.sum;
  high : l.sum ≤ℤ pos (l.i * 18446744073709551616);
}
