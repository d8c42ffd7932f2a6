-- The sum of few numbers, and one more.
use Rattle.std.proofs.Common.{ℕ, ◌+◌, ◌<◌, ◌*◌, arith, FitsSigned}
use Rattle.std.specs.Prelude.{ℤ, pos, negsuc, neg_ℤ, ◌+ℤ◌, ◌≤ℤ◌, unsigned_abs}
use Rattle.std.specs.Int.{w128}
use Rattle.std.proofs.lemmas.Int.{ints}

pub sum_fits : (sum x : ℤ) (i : ℕ) → i < 1073741824
    → neg_ℤ (pos (i * 18446744073709551616)) ≤ℤ sum → sum ≤ℤ pos (i * 18446744073709551616)
    → unsigned_abs x < 18446744073709551616 → FitsSigned w128 (sum +ℤ x)
sum_fits sum (pos n) i l p q a = omega (arith, ints)
sum_fits sum (negsuc n) i l p q a = omega (arith, ints)

pub sum_low : (sum x : ℤ) (i : ℕ) → neg_ℤ (pos (i * 18446744073709551616)) ≤ℤ sum
    → unsigned_abs x < 18446744073709551616
    → neg_ℤ (pos ((i + 1) * 18446744073709551616)) ≤ℤ (sum +ℤ x)
sum_low sum (pos n) i p a = omega (arith, ints)
sum_low sum (negsuc n) i p a = omega (arith, ints)

pub sum_high : (sum x : ℤ) (i : ℕ) → sum ≤ℤ pos (i * 18446744073709551616)
    → unsigned_abs x < 18446744073709551616
    → (sum +ℤ x) ≤ℤ pos ((i + 1) * 18446744073709551616)
sum_high sum (pos n) i p a = omega (arith, ints)
sum_high sum (negsuc n) i p a = omega (arith, ints)
