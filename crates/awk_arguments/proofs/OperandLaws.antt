-- The operands in code and those that they stand for.
use Rattle.std.proofs.Common.{◌≡◌, List, [], ◌∷◌, length, slice_get, Some, ℤ, ap, ap₂, ◌∙◌}
use Rattle.std.proofs.Common.{refl, subst, arith}
use Rattle.awk_layout.specs.declared.datum.Operand.{Operand}
use Rattle.awk_layout.specs.declared.datum.Operand.TheVariants.{Of, Literal}
use Rattle.awk_arguments.specs.Fit.{IsGiven}
use Rattle.awk_arguments.specs.Operand.{only_in, first_in, two_in, three_in}
use Rattle.awk_arguments.specs.OperandView.{shown_operands}

-- ---- operands at their places

-- of one operand, the only one is that at place 0
pub operands-one : (os : List Operand) (o : Operand) → length os ≡ 1 → slice_get os 0 ≡ Some o
    → os ≡ o ∷ []
operands-one [] o one at = absurd (omega arith)
operands-one (p ∷ []) o one at = let same : p ≡ o = cc in ap (λ x. x ∷ []) same
operands-one (p ∷ q ∷ os) o one at = absurd (omega arith)

-- of two operands
pub operands-two : (os : List Operand) (o p : Operand) → length os ≡ 2 → slice_get os 0 ≡ Some o
    → slice_get os 1 ≡ Some p → os ≡ o ∷ p ∷ []
operands-two [] o p two at next = absurd (omega arith)
operands-two (x ∷ []) o p two at next = absurd (omega arith)
operands-two (x ∷ y ∷ []) o p two at next =
    let first : x ≡ o = cc in
    let second : y ≡ p = cc in
    ap₂ (λ x y. x ∷ y ∷ []) first second
operands-two (x ∷ y ∷ z ∷ os) o p two at next = absurd (omega arith)

-- of three operands
pub operands-three : (os : List Operand) (o p q : Operand) → length os ≡ 3
    → slice_get os 0 ≡ Some o → slice_get os 1 ≡ Some p → slice_get os 2 ≡ Some q
    → os ≡ o ∷ p ∷ q ∷ []
operands-three [] o p q three at next last = absurd (omega arith)
operands-three (x ∷ []) o p q three at next last = absurd (omega arith)
operands-three (x ∷ y ∷ []) o p q three at next last = absurd (omega arith)
operands-three (x ∷ y ∷ z ∷ []) o p q three at next last =
    let first : x ≡ o = cc in
    let second : y ≡ p = cc in
    let third : z ≡ q = cc in
    ap₂ (λ x y. x ∷ y ∷ z ∷ []) first second ∙ ap (λ z. o ∷ p ∷ z ∷ []) third
operands-three (x ∷ y ∷ z ∷ w ∷ os) o p q three at next last = absurd (omega arith)

-- ---- how many there are

pub only-long : (os : List Operand) → IsGiven (only_in (shown_operands os)) → length os ≡ 1
only-long [] h = absurd (cc)
only-long (Of x ∷ []) h = refl
only-long (Literal z ∷ []) h = absurd (cc)
only-long (Of x ∷ p ∷ os) h = absurd (cc)
only-long (Literal z ∷ p ∷ os) h = absurd (cc)

pub first-long : (os : List Operand) → IsGiven (first_in (shown_operands os)) → length os ≡ 2
first-long [] h = absurd (cc)
first-long (Of x ∷ []) h = absurd (cc)
first-long (Literal z ∷ []) h = absurd (cc)
first-long (Of x ∷ p ∷ []) h = refl
first-long (Literal z ∷ p ∷ []) h = absurd (cc)
first-long (Of x ∷ p ∷ q ∷ os) h = absurd (cc)
first-long (Literal z ∷ p ∷ q ∷ os) h = absurd (cc)

pub two-long : (os : List Operand) → IsGiven (two_in (shown_operands os)) → length os ≡ 2
two-long [] h = absurd (cc)
two-long (o ∷ []) h = absurd (cc)
two-long (o ∷ p ∷ []) h = refl
two-long (o ∷ p ∷ q ∷ os) h = absurd (cc)

pub three-long : (os : List Operand) → IsGiven (three_in (shown_operands os)) → length os ≡ 3
three-long [] h = absurd (cc)
three-long (Of x ∷ []) h = absurd (cc)
three-long (Literal z ∷ []) h = absurd (cc)
three-long (Of x ∷ p ∷ []) h = absurd (cc)
three-long (Literal z ∷ p ∷ []) h = absurd (cc)
three-long (Of x ∷ p ∷ q ∷ []) h = refl
three-long (Literal z ∷ p ∷ q ∷ []) h = absurd (cc)
three-long (Of x ∷ p ∷ q ∷ r ∷ os) h = absurd (cc)
three-long (Literal z ∷ p ∷ q ∷ r ∷ os) h = absurd (cc)

-- ---- a literal stands in the place of none of these data

pub only-literal : (os : List Operand) (o : Operand) (z : ℤ) → slice_get os 0 ≡ Some o
    → o ≡ Literal z → IsGiven (only_in (shown_operands os)) → ⊥
only-literal [] o z at is h = cc
only-literal (p ∷ []) o z at is h =
    let same : p ≡ Literal z = cc in
    let none = subst (λ x. IsGiven (only_in (shown_operands (x ∷ [])))) same h in
    cc
only-literal (p ∷ q ∷ os) o z at is h =
    let same : p ≡ Literal z = cc in
    let none = subst (λ x. IsGiven (only_in (shown_operands (x ∷ q ∷ os)))) same h in
    cc

pub first-literal : (os : List Operand) (o : Operand) (z : ℤ) → slice_get os 0 ≡ Some o
    → o ≡ Literal z → IsGiven (first_in (shown_operands os)) → ⊥
first-literal [] o z at is h = cc
first-literal (p ∷ os) o z at is h =
    let same : p ≡ Literal z = cc in
    let none = subst (λ x. IsGiven (first_in (shown_operands (x ∷ os)))) same h in
    cc

pub three-literal : (os : List Operand) (o : Operand) (z : ℤ) → slice_get os 0 ≡ Some o
    → o ≡ Literal z → IsGiven (three_in (shown_operands os)) → ⊥
three-literal [] o z at is h = cc
three-literal (p ∷ os) o z at is h =
    let same : p ≡ Literal z = cc in
    let none = subst (λ x. IsGiven (three_in (shown_operands (x ∷ os)))) same h in
    cc
