use Rattle.std.proofs.Common.{◌≡◌}
use Rattle.std.specs.Prelude.{false}
use Rattle.std.specs.List.{list_any, slice_range}
use Rattle.awk_numbers.specs.Folds.{is_zero}
use Rattle.awk_numbers.proofs.folds.has_zero.Given as goal

abbrev pub invariant-loop-i : goal.invariant-loop-i
invariant-loop-i g l = record {
  none : list_any is_zero (slice_range (g.R.Row.numbers l.row) 0 l.i) ≡ false;
}
