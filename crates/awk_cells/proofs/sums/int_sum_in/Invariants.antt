use Rattle.std.proofs.Common.{◌≡◌, ◌*◌, map, take}
use Rattle.std.specs.Prelude.{pos, neg_ℤ, ◌≤ℤ◌}
use Rattle.awk_kernels.specs.Kernels.{total}
use Rattle.awk_lanes.specs.Numbers.{number}
use Rattle.awk_lanes.specs.declared.kind.Kind.TheVariants as Kind
use Rattle.awk_cells.proofs.sums.int_sum_in.Given as goal

abbrev pub invariant-loop-i : goal.invariant-loop-i
invariant-loop-i l = record {
  sum : l.sum ≡ total (take l.i (map (number Kind.I64) l.groups));
  low : neg_ℤ (pos (l.i * 18446744073709551616)) ≤ℤ l.sum;
  high : l.sum ≤ℤ pos (l.i * 18446744073709551616);
}
