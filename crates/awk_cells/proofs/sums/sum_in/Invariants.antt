use Rattle.std.proofs.Common.{◌≡◌, ◌*◌, map, take}
use Rattle.std.specs.Prelude.{pos, neg_ℤ, ◌≤ℤ◌}
use Rattle.awk_kernels.specs.Kernels.{total}
use Rattle.awk_cells.proofs.sums.sum_in.Given as goal

abbrev pub invariant-loop-i : goal.invariant-loop-i
invariant-loop-i g l = record {
  sum : l.sum ≡ total (take l.i (map g.C.Cell.number l.groups));
  low : neg_ℤ (pos (l.i * 4294967296)) ≤ℤ l.sum;
  high : l.sum ≤ℤ pos (l.i * 4294967296);
}
