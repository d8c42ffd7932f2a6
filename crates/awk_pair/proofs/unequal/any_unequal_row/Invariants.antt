use Rattle.std.proofs.Common.{◌≡◌, ℕ, ◌<◌, false}
use Rattle.awk_pair.proofs.UnequalLaws.{place_uneven}
use Rattle.awk_pair.proofs.unequal.any_unequal_row.Given as goal

abbrev pub invariant-loop-i : goal.invariant-loop-i
invariant-loop-i g l = (k : ℕ) → k < l.i → place_uneven l.keep l.d l.xs k ≡ false
