-- The height of a node by those of its contents, under a limit.
use Rattle.std.proofs.Common.{◌≡◌, ℕ, zero, suc, ◌+◌, ◌≤◌, List, [], ◌∷◌, take, slice_get, Some}
use Rattle.std.proofs.Common.{arith, true, false, add-one}
use Rattle.std.specs.Prelude.{nat_lt}
use Rattle.awk_layout.specs.Contents.{height-get}
use Rattle.awk_layout.specs.Induction.{height-some}
use Rattle.awk_layout.specs.Layout.{Layout, height, heights, layouts_from}

-- every node is higher than 0
pub over_none : (x : Layout) (n : ℕ) → n ≡ 0 → true ≡ nat_lt n (height x)
over_none x n e = grind (arith, height-some x, e)

-- the one that `get` gives is higher, and so are all
pub over_some : (xs : List Layout) (k : ℕ) (y : Layout) (n : ℕ) → slice_get xs k ≡ Some y
    → nat_lt n (height y) ≡ true → true ≡ nat_lt n (heights (layouts_from xs))
over_some xs k y n e h = grind (arith, height-get xs k y e, h)

heights_behind : (xs : List Layout) (k : ℕ) (y : Layout) (n : ℕ) → slice_get xs k ≡ Some y
    → heights (layouts_from (take k xs)) ≤ n → height y ≤ n
    → heights (layouts_from (take (suc k) xs)) ≤ n
heights_behind [] k y n e h l = cc
heights_behind (x ∷ xs) zero y n e h l = let f : x ≡ y = cc in rw f (omega (arith, l))
heights_behind (x ∷ xs) (suc k) y n e h l =
    omega (arith, heights_behind xs k y n e (omega (arith, h)) l, h)

pub not_over_next : (xs : List Layout) (k : ℕ) (y : Layout) (n : ℕ) → slice_get xs k ≡ Some y
    → heights (layouts_from (take k xs)) ≤ n → nat_lt n (height y) ≡ false
    → heights (layouts_from (take (k + 1) xs)) ≤ n
not_over_next xs k y n e h l =
    rw add-one (heights_behind xs k y n e h (not_over n (height y) l))
  where
    not_over : (m n : ℕ) → nat_lt m n ≡ false → n ≤ m
    not_over m n e = grind arith
