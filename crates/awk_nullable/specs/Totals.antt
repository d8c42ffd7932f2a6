-- Products while numbers are read.
use Rattle.std.specs.Prelude.{◌≡◌, ◌<◌, ◌≤◌, ℤ, unsigned_abs, true, false, IfSome}
use Rattle.std.specs.Prelude.{Bool, not, List, Option, Some, None}
use Rattle.std.specs.List.{list_any}
use Rattle.awk_lanes.specs.Numbers.{is_nonzero}
use Rattle.awk_numbers.specs.Folds.{product, is_zero}
use Rattle.awk_nullable.specs.declared.totals.Product.{Product}
use Rattle.awk_nullable.specs.declared.totals.Product.TheVariants.{Zero, Far, Near}

-- the product, if it is one of 64 bits and so are those of the first numbers
abbrev pub IsEarly : Option ℤ → List ℤ → Type 0
IsEarly o zs = IfSome o (λ z. z ≡ product zs)

-- whether one of the numbers is 0, and else how far their product is from 0
abbrev pub IsProduct : Product → List ℤ → Type 0
IsProduct Zero zs = list_any is_zero zs ≡ true
IsProduct Far zs =
    (list_any is_zero zs ≡ false) × (18446744073709551616 ≤ unsigned_abs (product zs))
IsProduct (Near z) zs =
    (list_any is_zero zs ≡ false) × (z ≡ product zs) × (unsigned_abs z < 18446744073709551616)

-- ---- truth

-- whether an item is not null and not 0
abbrev pub is_true_number : Option ℤ → Bool
is_true_number None = false
is_true_number (Some z) = is_nonzero z

-- whether a number is 0
abbrev pub is_false : ℤ → Bool
is_false z = not (is_nonzero z)
