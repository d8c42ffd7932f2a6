-- The quotient by a divisor, from the product with how often it goes into all numbers.
use Rattle.std.proofs.Common.{◌≡◌, ◌≢◌, ◌⊎◌, ℕ, ◌+◌, ◌-◌, ◌*◌, ◌/◌, ◌%◌, ◌<◌, ◌≤◌, arith, ap}
use Rattle.std.proofs.Common.{sym, ◌∙◌, inl, inr, List, length, get_or}
use Rattle.std.specs.Prelude.{ℤ, pos, Result, Ok, slice_set}
use Rattle.std.proofs.lemmas.Bool.{cases_eq}
use Rattle.std.proofs.lemmas.Grind.{get_or-set_at}
use Rattle.std.proofs.lemmas.List.{get_or-set_other}
use Rattle.std.proofs.Math.Nat.{mul-le-mul_left, mul-le-mul_right, le_of_mul-le-mul_right}
use Rattle.std.proofs.Math.Nat.{lt_of_mul-lt-mul_right, div-mul-le_self, lt-div-mul-add}
use Rattle.std.proofs.Math.Nat.{mul_right_comm, mul_assoc}
use Rattle.std.proofs.lemmas.Nat.{div-mul-add, div-add-mod'}
use Rattle.awk_simd.specs.declared.division.Divisor.{Divisor}
use Rattle.awk_simd.specs.Divisor.{IsDivisor}

-- it is not too large
low : (w x m d q : ℕ) → 0 < w → m * d ≤ w → q * w ≤ x * m → q * d ≤ x
low w x m d q s l h =
    le_of_mul-le-mul_right {k = w} (omega (
      arith,
      mul-le-mul_right d h,
      mul-le-mul_left x l,
      mul_right_comm q w d,
      mul_assoc x m d,
    )) s

-- and at most one too small
high : (w x m d q : ℕ) → 0 < d → x < w → w ≤ m * d + d → x * m < q * w + w → x < q * d + d + d
high w x m d q p s l h =
    lt_of_mul-lt-mul_right w (omega (
      arith,
      mul-le-mul_right d h,
      mul-le-mul_left x l,
      mul-le-mul_right d s,
      mul_right_comm q w d,
      mul_assoc x m d,
    ))

-- a quotient is known by what is left
pub divides_by : (x d q : ℕ) → q * d ≤ x → x - q * d < d → q ≡ x / d
divides_by x d q l s = sym (ap (λ n. n / d) (omega arith) ∙ div-mul-add q d (x - q * d) s)

pub leaves_by : (x d q : ℕ) → q * d ≤ x → x - q * d < d → x - q * d ≡ x % d
leaves_by x d q l s =
    omega (arith, ap (λ n. n * d) (divides_by x d q l s), div-add-mod' x d)

-- what the product gives
pub share_low : (x : ℕ) (d : Divisor) → IsDivisor d
    → x * d.share / 18446744073709551616 * d.number ≤ x
share_low x d h =
    low 18446744073709551616 x d.share d.number (x * d.share / 18446744073709551616) (omega arith)
    (omega (arith, h.low)) (div-mul-le_self (x * d.share) 18446744073709551616)

pub share_high : (x : ℕ) (d : Divisor) → x < 18446744073709551616 → IsDivisor d
    → x < x * d.share / 18446744073709551616 * d.number + d.number + d.number
share_high x d s h =
    high 18446744073709551616 x d.share d.number (x * d.share / 18446744073709551616) h.some s
    (omega (arith, h.high)) (lt-div-mul-add (omega arith))

-- one more place has its result
pub one_more : {Z : Type 0} (f : ℕ → Result ℤ Z) (out : List ℤ) (i : ℕ) (z : ℤ) → i < length out
    → f i ≡ Ok z → ((k : ℕ) → k < i → f k ≡ Ok (get_or out k (pos 0)))
    → (k : ℕ) → k < i + 1 → f k ≡ Ok (get_or (slice_set out i z) k (pos 0))
one_more f out i z l e h k s = at (cases_eq k i)
  where
    at : (k ≡ i) ⊎ (k ≢ i) → f k ≡ Ok (get_or (slice_set out i z) k (pos 0))
    at (inl same) = ap f same ∙ e ∙ ap Ok (sym (get_or-set_at out i k z (pos 0) same l))
    at (inr other) = h k (omega arith) ∙ ap Ok (sym (get_or-set_other out i k z (pos 0) other))
