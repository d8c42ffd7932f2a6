use Rattle.std.proofs.Common.{◌≡◌, ℕ, ◌+◌, ◌*◌, ◌-◌, ◌<◌, false}
use Rattle.awk_pair.proofs.UnequalLaws.{row_uneven, rows_uneven}
use Rattle.awk_pair.proofs.unequal.+unequal.Given as goal

abbrev pub decreases-any_unequal : goal.decreases-any_unequal
decreases-any_unequal g l = 4 * l.d + 3

abbrev pub decreases-unequal_lists : goal.decreases-unequal_lists
decreases-unequal_lists g l = 4 * l.d + 2

abbrev pub decreases-unequal_shares : goal.decreases-unequal_shares
decreases-unequal_shares g l = 4 * l.d + 1

abbrev pub decreases-unequal_row : goal.decreases-unequal_row
decreases-unequal_row g l = 4 * l.d

abbrev pub invariant-unequal_shares-loop-i : goal.invariant-unequal_shares-loop-i
invariant-unequal_shares-loop-i g l =
    (k : ℕ) → k < l.i → rows_uneven l.keep (l.d - 1) l.shares k ≡ false

abbrev pub invariant-unequal_row-loop-k : goal.invariant-unequal_row-loop-k
invariant-unequal_row-loop-k g l =
    (j : ℕ) → j < l.k → row_uneven l.keep (l.d - 1) l.shares l.i j ≡ false
