-- How many items of lists are too many, as a cause by which values are refused.
use Rattle.std.specs.Prelude.{◌≡◌, ℕ, ◌<◌, ◌≤◌, nat_lt, true, false, Some, None, if◌then◌else◌}
use Rattle.std.proofs.Common.{arith, ap}
use Rattle.awk_types.specs.ItemLimit.{item_limit}
use Rattle.awk_list_functions.specs.Spoils.{too_many}
use Rattle.awk_list_functions.specs.declared.causes.Spoil.TheVariants.{Size}

pub over_limit : (n : ℕ) → item_limit < n → too_many n ≡ Some Size
over_limit n p =
    let b : nat_lt item_limit n ≡ true = grind arith in
    ap (λ b. if b then Some Size else None) b

pub within_limit : (n : ℕ) → n ≤ item_limit → too_many n ≡ None
within_limit n p =
    let b : nat_lt item_limit n ≡ false = grind arith in
    ap (λ b. if b then Some Size else None) b
