use Rattle.std.proofs.Common.{◌≡◌, ◌<◌, ℕ}
use Rattle.awk_columns.specs.Lists.{length_of}
use Rattle.awk_pair_levels.proofs.alike.are_equal.Given as goal

abbrev pub invariant-loop-i : goal.invariant-loop-i
invariant-loop-i g l = (k : ℕ) → k < l.i → length_of l.lists k ≡ length_of l.lead k
