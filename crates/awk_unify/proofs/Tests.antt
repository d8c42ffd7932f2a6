-- What follows where a test is true.
use Rattle.std.proofs.Common.{◌≡◌, ◌↔◌, ◌==◌, ℕ, Bool, IsTrue, arith, false, refl, subst, sym, true}
use Rattle.std.proofs.lemmas.Bool.{false_from_ne_true}
use Rattle.awk_base.proofs.Truths.{eq_is}
use Rattle.awk_types.specs.Predicates.{is_unknown}
use Rattle.awk_unify.proofs.SameTypeLaws.{same_type-refl, same_type_is}
use Rattle.awk_types.specs.DataType.{DataType, unknown}
use Rattle.awk_types.specs.SameType.{same_type}

-- ---- equal numbers

pub eq_true : (n m : ℕ) → n ≡ m → (n == m) ≡ true
eq_true n m e = grind arith

pub eq_false : (n m : ℕ) → (n ≡ m → ⊥) → (n == m) ≡ false
eq_false n m d = false_from_ne_true (n == m) (λ h. d (eq_is n m h))

-- ---- tests of types

pub unknown_is : (t : DataType) → is_unknown t ≡ true → t ≡ unknown
unknown_is unknown e = refl
unknown_is t e = cc

-- the test of equal types that a call answers
pub same_type_from : (b : Bool) (t u : DataType) → (IsTrue b ↔ (t ≡ u)) → b ≡ same_type t u
same_type_from true t u h = sym (subst (λ x. same_type t x ≡ true) (h.0 refl) (same_type-refl t))
same_type_from false t u h =
    sym (false_from_ne_true (same_type t u) (λ e. no (h.1 (same_type_is t u e))))
  where
    no : IsTrue false → ⊥
    no x = cc
