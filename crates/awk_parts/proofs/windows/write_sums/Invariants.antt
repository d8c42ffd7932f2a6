use Rattle.std.proofs.Common.{◌≡◌, ◌+◌, length, map, take}
use Rattle.awk_kernels.specs.Kernels.{total}
use Rattle.awk_parts.specs.Windows.{AreSums}
use Rattle.awk_parts.proofs.windows.write_sums.Given as goal

abbrev pub invariant-loop-i : goal.invariant-loop-i
invariant-loop-i g l = record {
  length : length l.out ≡ length l.fn.out;
  sum : l.sum ≡ total (take l.i (map g.C.Cell.number l.part));
  sums : AreSums (map g.C.Cell.number l.part) (l.i + 1) l.out;
}
