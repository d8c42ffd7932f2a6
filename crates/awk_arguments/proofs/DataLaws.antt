-- All operands as data.
use Rattle.std.proofs.Common.{◌≡◌, List, [], ◌∷◌, ◌++◌, option_map, slice_get, Option, Some, None}
use Rattle.std.proofs.Common.{ℕ, zero, suc, take, ℤ, ap, refl}
use Rattle.awk_types.specs.Datum as shown
use Rattle.awk_layout.specs.Datum.{datum_of}
use Rattle.awk_layout.specs.Filler.{filler_of}
use Rattle.awk_layout.specs.declared.datum.Datum.{Datum}
use Rattle.awk_layout.specs.declared.datum.Operand.{Operand}
use Rattle.awk_layout.specs.declared.datum.Operand.TheVariants.{Of, Literal}
use Rattle.awk_arguments.specs.Operand.{all_in, data_in, one_more}
use Rattle.awk_arguments.specs.OperandView.{shown_operands}

-- the same behind another one
further : (d e : shown.Datum) (found next : Option (List shown.Datum)) (ds : List shown.Datum)
    → ((es : List shown.Datum) → found ≡ Some es → next ≡ Some (es ++ e ∷ []))
    → option_map (λ xs. d ∷ xs) found ≡ Some ds
    → option_map (λ xs. d ∷ xs) next ≡ Some (ds ++ e ∷ [])
further d e None next ds go h = absurd (cc)
further d e (Some es) next ds go h =
    let is : next ≡ Some (es ++ e ∷ []) = go es refl in
    let same : ds ≡ d ∷ es = cc in
    rw is (rw same refl)

-- one datum more at the end
pub all_in-take : (os : List Operand) (k : ℕ) (d : Datum) (ds : List shown.Datum)
    → slice_get os k ≡ Some (Of d) → all_in (shown_operands (take k os)) ≡ Some ds
    → all_in (shown_operands (take (suc k) os)) ≡ Some (ds ++ datum_of d ∷ [])
all_in-take [] k d ds at h = absurd (cc)
all_in-take (o ∷ os) zero d ds at h =
    let is : o ≡ Of d = cc in
    let none : ds ≡ [] = cc in
    rw (is, none) refl
all_in-take (Of x ∷ os) (suc k) d ds at h =
    further (datum_of x) (datum_of d) (all_in (shown_operands (take k os)))
    (all_in (shown_operands (take (suc k) os))) ds (λ es is. all_in-take os k d es at is) h
all_in-take (Literal z ∷ os) (suc k) d ds at h = absurd (cc)

none_further : (o : Operand) (found : Option (List shown.Datum)) → found ≡ None
    → one_more (filler_of o) found ≡ None
none_further (Of x) found h = ap (option_map (λ ds. datum_of x ∷ ds)) h
none_further (Literal z) found h = refl

-- a literal is no datum
pub all_in-literal : (os : List Operand) (k : ℕ) (z : ℤ) → slice_get os k ≡ Some (Literal z)
    → all_in (shown_operands os) ≡ None
all_in-literal [] k z h = absurd (cc)
all_in-literal (o ∷ os) zero z h =
    let is : o ≡ Literal z = cc in
    ap (λ p. one_more (filler_of p) (all_in (shown_operands os))) is
all_in-literal (o ∷ os) (suc k) z h =
    none_further o (all_in (shown_operands os)) (all_in-literal os k z h)

pub data_in-literal : (os : List Operand) (k : ℕ) (z : ℤ) → slice_get os k ≡ Some (Literal z)
    → data_in (shown_operands os) ≡ None
data_in-literal [] k z h = absurd (cc)
data_in-literal (o ∷ os) k z h = all_in-literal (o ∷ os) k z h
