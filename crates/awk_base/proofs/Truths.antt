-- Truth values, and tests of numbers by what they say.
use Rattle.std.proofs.Common.{ℕ, ◌==◌, arith, ◌≤◌, nat_le, ◌↔◌, sym, ◌∙◌}
use Rattle.std.specs.Prelude.{◌≡◌, Bool, true, false, ◌||◌, refl, not, nat_lt, ℤ}
use Rattle.std.specs.Ordering.{int_eq}
use Rattle.std.proofs.lemmas.Int.{ints}
use Rattle.std.proofs.lemmas.Bool.Decides.{nat_tests}

-- neither of two
pub or_first : (a b : Bool) → (a || b) ≡ false → a ≡ false
or_first false b e = refl
or_first true b e = e

pub or_second : (a b : Bool) → (a || b) ≡ false → b ≡ false
or_second false b e = e
or_second true b e = cc

-- one of two, and not the first
pub or_later : (a b : Bool) → (a || b) ≡ true → a ≡ false → b ≡ true
or_later true b e f = cc
or_later false b e f = e

-- no truth value is both
pub not-both : (b : Bool) → b ≡ false → b ≡ true → ⊥
not-both b e f = cc

-- equal numbers
pub eq_is : (n m : ℕ) → (n == m) ≡ true → n ≡ m
eq_is n m e = grind arith

pub eq-refl : (n : ℕ) → (n == n) ≡ true
eq-refl n = grind arith

pub same_number : (n m : ℕ) → not (n == m) ≡ false → n ≡ m
same_number n m h = grind arith

pub equal_right : (n m : ℕ) → n ≡ m → not (n == m) ≡ false
equal_right n m h = grind arith

pub unequal_wrong : (n m : ℕ) → (n ≡ m → ⊥) → not (n == m) ≡ true
unequal_wrong n m h = grind arith

-- numbers in order
pub nat_le-true : (a b : ℕ) → nat_le a b ≡ true → a ≤ b
nat_le-true a b e = grind arith

pub nat_lt-none : (a b : ℕ) → b ≤ a → nat_lt a b ≡ false
nat_lt-none a b h = grind (arith, nat_tests)

pub int_eq-refl : (z : ℤ) → int_eq z z ≡ true
int_eq-refl z = grind (arith, ints)

-- equality of two terms that are known as others
pub same_as : {A : Type 0} {a b c d : A} {P : Type 0} → a ≡ c → b ≡ d → (P ↔ (c ≡ d)) → P ↔ (a ≡ b)
same_as e f h = (λ p. e ∙ h.0 p ∙ sym f, λ g. h.1 (sym e ∙ g ∙ f))
