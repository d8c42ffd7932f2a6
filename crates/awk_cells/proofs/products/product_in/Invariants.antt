use Rattle.std.proofs.Common.{◌≡◌, map}
use Rattle.std.specs.List.{slice_range}
use Rattle.awk_numbers.specs.Folds.{product}
use Rattle.awk_cells.proofs.products.product_in.Given as goal

abbrev pub invariant-loop-i : goal.invariant-loop-i
invariant-loop-i g l = record {
  product : l.so_far ≡ product (slice_range (map g.C.Cell.number l.groups) 0 l.i);
}
