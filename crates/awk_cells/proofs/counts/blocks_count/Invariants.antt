use Rattle.std.proofs.Common.{◌≡◌, ◌≤◌, ◌*◌, take}
use Rattle.std.specs.List.{sum_by}
use Rattle.awk_kernels.specs.Kernels.{count_true}
use Rattle.awk_cells.proofs.counts.blocks_count.Given as goal

abbrev pub invariant-loop-i : goal.invariant-loop-i
invariant-loop-i g l = record {
  count : l.count ≡ sum_by count_true (take l.i l.blocks);
  few : l.count ≤ l.i * 255;
}
