use Rattle.std.proofs.Common.{◌≡◌, ◌≤◌, take}
use Rattle.awk_kernels.specs.Kernels.{count_true}
use Rattle.awk_cells.proofs.counts.block_count.Given as goal

abbrev pub invariant-loop-i : goal.invariant-loop-i
invariant-loop-i g l = record {
  count : l.count ≡ count_true (take l.i l.block);
  few : l.count ≤ l.i;
}
