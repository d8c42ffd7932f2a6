use Rattle.std.proofs.Common.{◌≡◌, ◌<◌}
use Rattle.std.specs.Prelude.{unsigned_abs}
use Rattle.std.specs.List.{slice_range}
use Rattle.awk_numbers.specs.Folds.{product}
use Rattle.awk_numbers.proofs.folds.product.Given as goal

abbrev pub invariant-loop-i : goal.invariant-loop-i
invariant-loop-i g l = record {
  product : l.so_far ≡ product (slice_range (g.R.Row.numbers l.row) 0 l.i);
  small : unsigned_abs l.so_far < 18446744073709551616;
}
