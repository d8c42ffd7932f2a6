-- Laws of names: the tests of equality are true exactly of equal names.
use Rattle.std.proofs.Common.{◌≡◌, true, false, List, refl, sym, Bool, ap, ◌∙◌}
use Rattle.std.specs.Prelude.{◌≢◌}
use Rattle.std.proofs.lemmas.Bool.{false_from_ne_true}
use Rattle.std.specs.Cmp.Lexicographic.{pointwise_decides, bytes_decides}
use Rattle.awk_types.specs.DataType.{Name}
use Rattle.awk_types.specs.Names.{same_name, same_names}

pub same_name_is : (n m : Name) → same_name n m ≡ true → n ≡ m
same_name_is n m e = (bytes_decides n m).0 e

pub same_name-refl : (n : Name) → same_name n n ≡ true
same_name-refl n = (bytes_decides n n).1 refl

pub same_names_is : (ns ms : List Name) → same_names ns ms ≡ true → ns ≡ ms
same_names_is ns ms e = (pointwise_decides bytes_decides ns ms).0 e

pub same_names-refl : (ns : List Name) → same_names ns ns ≡ true
same_names-refl ns = (pointwise_decides bytes_decides ns ns).1 refl

pub same_name_apart : (n m : Name) → n ≢ m → same_name n m ≡ false
same_name_apart n m h = false_from_ne_true (same_name n m) (λ e. h (same_name_is n m e))

-- ---- distinct names

-- the order of two names is all one
pub same_name-flip : (n m : Name) → same_name n m ≡ same_name m n
same_name-flip n m = step (same_name n m) refl
  where
    step : (b : Bool) → same_name n m ≡ b → b ≡ same_name m n
    step true e = sym (ap (λ k. same_name k n) (sym (same_name_is n m e)) ∙ same_name-refl n)
    step false e = other (same_name m n) refl
      where
        other : (b : Bool) → same_name m n ≡ b → false ≡ b
        other true f = sym e ∙ ap (same_name n) (same_name_is m n f) ∙ same_name-refl n
        other false f = refl
