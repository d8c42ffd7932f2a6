-- Data as operands.
use Rattle.std.proofs.Common.{◌≡◌, ℕ, ◌≤◌, ◌+◌, ap, sym, ◌∙◌, take}
use Rattle.std.specs.Prelude.{List, [], ◌∷◌, ◌++◌, map, length, slice_get, Some}
use Rattle.std.proofs.lemmas.List.{length-map, map-append, take_all}
use Rattle.awk_base.proofs.Lists.{map-take-get}
use Rattle.awk_layout.specs.Datum.{datum_of}
use Rattle.awk_layout.specs.Single.{own_datum}
use Rattle.awk_layout.specs.declared.datum.Datum.{Datum}
use Rattle.awk_layout.specs.declared.datum.Operand.{Operand}
use Rattle.awk_layout.specs.declared.datum.Operand.TheVariants as operand
use Rattle.awk_pair_operands.specs.First.{all_data}

pub data_push : (xs : List Datum) (ys zs : List Operand) (i : ℕ) (x y : Datum)
    → slice_get xs i ≡ Some x → zs ≡ ys ++ operand.Of y ∷ [] → y ≡ x
    → all_data ys ≡ map datum_of (take i xs) → all_data zs ≡ map datum_of (take (i + 1) xs)
data_push xs ys zs i x y at pushed is made =
    ap all_data pushed ∙ map-append own_datum ys (operand.Of y ∷ [])
    ∙ ap (λ ds. ds ++ datum_of y ∷ []) made
    ∙ ap (λ d. map datum_of (take i xs) ++ datum_of d ∷ []) is
    ∙ sym (map-take-get datum_of xs i x at)

pub data_all : (xs : List Datum) (ys : List Operand) (i : ℕ) → length xs ≤ i
    → all_data ys ≡ map datum_of (take i xs) → all_data ys ≡ map datum_of xs
data_all xs ys i l h = h ∙ ap (map datum_of) (take_all i xs l)

-- as many operands as data
pub data_length : (xs : List Datum) (ys : List Operand) → all_data ys ≡ map datum_of xs
    → length ys ≡ length xs
data_length xs ys e = sym (length-map ys own_datum) ∙ ap length e ∙ length-map xs datum_of
