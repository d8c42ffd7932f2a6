-- How many items are too many for a column, as a test and as a fault.
use Rattle.std.specs.Prelude.{◌<◌, None, Some, nat_lt, true, ℕ, ◌≡◌, if◌then◌else◌, false, ◌≤◌}
use Rattle.std.proofs.Common.{ap, arith}
use Rattle.awk_types.specs.declared.fault.Fault.TheVariants.{Size}
use Rattle.awk_types.specs.ItemLimit.{item_limit, too_many}

pub over_limit : (n : ℕ) → item_limit < n → too_many n ≡ Some Size
over_limit n p = ap (λ b. if b then Some Size else None) (over n p)
  where
    over : (n : ℕ) → item_limit < n → nat_lt item_limit n ≡ true
    over n p = grind arith

pub within_limit : (n : ℕ) → n ≤ item_limit → too_many n ≡ None
within_limit n p = ap (λ b. if b then Some Size else None) (not_over n p)
  where
    not_over : (n : ℕ) → n ≤ item_limit → nat_lt item_limit n ≡ false
    not_over n p = grind arith

-- where none is told, there are no more
pub limit_kept : (n : ℕ) → too_many n ≡ None → n ≤ item_limit
limit_kept n h = grind arith

-- the test of it
pub nat_lt-over : (n : ℕ) → item_limit < n → nat_lt item_limit n ≡ true
nat_lt-over n p = grind arith

pub nat_lt-within : (n : ℕ) → n ≤ item_limit → nat_lt item_limit n ≡ false
nat_lt-within n p = grind arith
