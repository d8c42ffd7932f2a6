-- Lanes of numbers in order.
use Rattle.std.proofs.Common.{◌≡◌, ℕ, zero, suc, ◌+◌, refl, ap, ap₂, sym, ◌∙◌, subst}
use Rattle.std.proofs.Common.{List, [], ◌∷◌, map, get_or, arith}
use Rattle.std.specs.Prelude.{ℤ, pos, Bool, true, false, if◌then◌else◌}
use Rattle.std.specs.List.{All}
use Rattle.std.specs.List.Sorted.{IsPermutation}
use Rattle.std.proofs.lemmas.Int.{ints}
use Rattle.std.proofs.lemmas.List.{length-map}
use Rattle.std.proofs.lemmas.List.Elements.{All-from_get_or}
use Rattle.std.proofs.lemmas.List.Sorted.{All-permutation, IsPermutation-map, length_permutation}
use Rattle.awk_lanes.specs.Column.{Column}
use Rattle.awk_lanes.specs.Numbers.{element, is_nonzero}
use Rattle.awk_lanes.specs.Places.{place_at}
use Rattle.awk_lanes.specs.Ranges.{IsNumber, AreNumbers}
use Rattle.awk_lanes.specs.Words.{column, integers}
use Rattle.awk_lanes.specs.declared.kind.Kind.{Kind}
use Rattle.awk_lanes.specs.declared.kind.Kind.TheVariants as kind
use Rattle.awk_lanes.proofs.PlaceLaws.{element-element}
use Rattle.awk_lanes.proofs.RangeLaws.{zero_number}
use Rattle.awk_numbers.specs.Folds.{lane_numbers}
use Rattle.awk_numbers.proofs.PartLaws.{slice_range-map}
use Rattle.awk_parts.specs.Parts.{part_at}
use Rattle.awk_sorting.specs.Lanes.{SortsLane}
use Rattle.awk_sorting.specs.Order.{sort_numbers}
use Rattle.awk_sorting.specs.Parts.{SortsParts}

-- ---- numbers of a kind

all_fit : (k : Kind) (zs : List ℤ) → AreNumbers (column k zs) → All (IsNumber k) zs
all_fit k zs h = All-from_get_or (IsNumber k) zs (pos 0) (λ i l. h i)

each_fits : (k : Kind) (zs : List ℤ) → All (IsNumber k) zs → AreNumbers (column k zs)
each_fits k [] h i = zero_number k
each_fits k (z ∷ zs) h zero = h 0 (pos 0) (omega arith)
each_fits k (z ∷ zs) h (suc i) =
    each_fits k zs (λ j d l. h (suc j) d (omega (arith, l))) i

-- the same numbers in another order
pub fits_permuted : (k : Kind) (zs ys : List ℤ) → IsPermutation zs ys → AreNumbers (column k zs)
    → AreNumbers (column k ys)
fits_permuted k zs ys p h =
    each_fits k ys (All-permutation (IsNumber k) zs ys p (all_fit k zs h))

truth_fits : (b : Bool) → IsNumber kind.Bool (pos (if b then 1 else 0))
truth_fits true = (omega (arith, ints), omega (arith, ints))
truth_fits false = (omega (arith, ints), omega (arith, ints))

element_fits : (k : Kind) (z : ℤ) → IsNumber k z → IsNumber k (element k z)
element_fits kind.Bool z h = truth_fits (is_nonzero z)
element_fits kind.I8 z h = h
element_fits kind.I16 z h = h
element_fits kind.I32 z h = h
element_fits kind.I64 z h = h
element_fits kind.U8 z h = h
element_fits kind.U16 z h = h
element_fits kind.U32 z h = h
element_fits kind.U64 z h = h

elements_fit : (k : Kind) (zs : List ℤ) → All (IsNumber k) zs
    → AreNumbers (column k (map (element k) zs))
elements_fit k [] h i = zero_number k
elements_fit k (z ∷ zs) h zero = element_fits k z (h 0 (pos 0) (omega arith))
elements_fit k (z ∷ zs) h (suc i) =
    elements_fit k zs (λ j d l. h (suc j) d (omega (arith, l))) i

-- what is read of a lane is in the range of its kind
pub numbers_fit : (c : Column) → AreNumbers c → AreNumbers (column c.kind (lane_numbers c))
numbers_fit c h = elements_fit c.kind c.items (all_fit c.kind c.items h)

-- ---- what is read of them

-- of numbers that are read as they are
abbrev ReadAsIs : Kind → List ℤ → Type 0
ReadAsIs k zs = All (λ z. element k z ≡ z) zs

as_they_are : (k : Kind) (zs : List ℤ) → ReadAsIs k zs → map (element k) zs ≡ zs
as_they_are k [] h = refl
as_they_are k (z ∷ zs) h =
    ap₂ (λ y ys. y ∷ ys) (h 0 z (omega arith))
    (as_they_are k zs (λ j d l. h (suc j) d (omega (arith, l))))

elements_again : (k : Kind) (zs : List ℤ) → ReadAsIs k (map (element k) zs)
elements_again k zs =
    All-from_get_or (λ z. element k z ≡ z) (map (element k) zs) (element k (pos 0))
    (λ i l. again zs i)
  where
    again : (ys : List ℤ) (i : ℕ) → element k (get_or (map (element k) ys) i (element k (pos 0)))
        ≡ get_or (map (element k) ys) i (element k (pos 0))
    again [] i = element-element k (pos 0)
    again (y ∷ ys) zero = element-element k y
    again (y ∷ ys) (suc i) = again ys i

pub read_permuted : (k : Kind) (zs ys : List ℤ) → IsPermutation (map (element k) zs) ys
    → map (element k) ys ≡ ys
read_permuted k zs ys p =
    as_they_are k ys (All-permutation (λ z. element k z ≡ z) (map (element k) zs) ys p
    (elements_again k zs))

-- ---- lanes

module _ {X : Type 0} (number : X → ℤ) (up : Bool) (o : Column) (n : ℕ) (c : Column)
    (xs ys : List X) (e : map number xs ≡ lane_numbers c) (h : SortsParts number up o n xs ys) where
  same : IsPermutation (lane_numbers c) (map number ys)
  same =
      subst (λ l. IsPermutation l (map number ys)) e (IsPermutation-map number xs ys h.same)

  pub sorted_fit : AreNumbers c → AreNumbers (column c.kind (map number ys))
  sorted_fit f = fits_permuted c.kind (lane_numbers c) (map number ys) same (numbers_fit c f)

  -- numbers of a lane, sorted part by part, as a lane
  pub sorts_lane : SortsLane up o n c (column c.kind (map number ys))
  sorts_lane = record {
    kind = refl;
    size =
        length_permutation (lane_numbers c) (map number ys) same
        ∙ length-map c.items (element c.kind);
    parts = λ i l.
        ap (λ zs. part_at zs o i) (read_permuted c.kind c.items (map number ys) same)
        ∙ slice_range-map number ys (place_at o i) (place_at o (i + 1)) ∙ h.parts i l
        ∙ ap (sort_numbers up) (sym (slice_range-map number xs (place_at o i) (place_at o (i + 1)))
        ∙ ap (λ zs. part_at zs o i) e);
  }

-- ---- numbers as code reads them

pub nats_as_read : (c : Column) (ns : List ℕ) → c.kind ≡ kind.U64 → integers ns ≡ c.items
    → map (λ n. pos n) ns ≡ lane_numbers c
nats_as_read c ns k e =
    e ∙ sym (ap (λ k. map (element k) c.items) k ∙ as_they_are kind.U64 c.items (λ j d l. refl))

pub same_numbers : (zs : List ℤ) → map (λ (z : ℤ). z) zs ≡ zs
same_numbers [] = refl
same_numbers (z ∷ zs) = ap (λ ys. z ∷ ys) (same_numbers zs)

read_as_is : (k : Kind) (z : ℤ) → (k ≡ kind.Bool → ⊥) → element k z ≡ z
read_as_is kind.Bool z h = absurd (h refl)
read_as_is kind.I8 z h = refl
read_as_is kind.I16 z h = refl
read_as_is kind.I32 z h = refl
read_as_is kind.I64 z h = refl
read_as_is kind.U8 z h = refl
read_as_is kind.U16 z h = refl
read_as_is kind.U32 z h = refl
read_as_is kind.U64 z h = refl

-- numbers that are no truth values are read as they are
pub plain_numbers : (c : Column) → (c.kind ≡ kind.Bool → ⊥) → c.items ≡ lane_numbers c
plain_numbers c h = sym (as_they_are c.kind c.items (λ j d l. read_as_is c.kind _ h))
