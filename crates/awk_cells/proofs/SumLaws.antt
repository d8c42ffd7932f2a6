-- The sum of few numbers that need few bits, and one more.
use Rattle.std.proofs.Common.{ℕ, ◌+◌, ◌<◌, ◌≤◌, ◌*◌, arith, FitsSigned, w64}
use Rattle.std.specs.Prelude.{ℤ, pos, negsuc, neg_ℤ, ◌+ℤ◌, ◌≤ℤ◌, unsigned_abs}
use Rattle.std.proofs.lemmas.Int.{ints}

pub narrow_fits : (sum x : ℤ) (i : ℕ) → i < 1073741824
    → neg_ℤ (pos (i * 4294967296)) ≤ℤ sum → sum ≤ℤ pos (i * 4294967296)
    → unsigned_abs x ≤ 4294967296 → FitsSigned w64 (sum +ℤ x)
narrow_fits sum (pos n) i l p q a = omega (arith, ints)
narrow_fits sum (negsuc n) i l p q a = omega (arith, ints)

pub narrow_low : (sum x : ℤ) (i : ℕ) → neg_ℤ (pos (i * 4294967296)) ≤ℤ sum
    → unsigned_abs x ≤ 4294967296 → neg_ℤ (pos ((i + 1) * 4294967296)) ≤ℤ (sum +ℤ x)
narrow_low sum (pos n) i p a = omega (arith, ints)
narrow_low sum (negsuc n) i p a = omega (arith, ints)

pub narrow_high : (sum x : ℤ) (i : ℕ) → sum ≤ℤ pos (i * 4294967296)
    → unsigned_abs x ≤ 4294967296 → (sum +ℤ x) ≤ℤ pos ((i + 1) * 4294967296)
narrow_high sum (pos n) i p a = omega (arith, ints)
narrow_high sum (negsuc n) i p a = omega (arith, ints)
