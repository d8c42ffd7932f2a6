-- What the numbers of lanes are read as, and those of parts of them.
use Rattle.std.proofs.Common.{ℕ, zero, suc, ◌-◌, List, [], ◌∷◌, map, take, drop, get_or, arith}
use Rattle.std.specs.Prelude.{ℤ, pos, ◌≤ℤ◌, Bool, true, false, if◌then◌else◌, Option, Some, None}
use Rattle.std.specs.List.{slice_range}
use Rattle.std.proofs.lemmas.Int.{ints}
use Rattle.awk_lanes.specs.Column.{Column}
use Rattle.awk_lanes.specs.Numbers.{element, is_nonzero}
use Rattle.awk_lanes.specs.Ranges.{IsNumber, AreNumbers}
use Rattle.awk_lanes.specs.declared.kind.Kind.{Kind}
use Rattle.awk_lanes.specs.declared.kind.Kind.TheVariants.{Bool as Truths, I8, I16, I32, I64, U8}
use Rattle.awk_lanes.specs.declared.kind.Kind.TheVariants.{U16, U32, U64}
use Rattle.awk_lanes.proofs.RangeLaws.{zero_number}
use Rattle.awk_numbers.specs.Folds.{lane_numbers}
use Rattle.awk_parts.specs.Elements.{IsElement, AreElements}
use Rattle.awk_cells.specs.Extremes.{number_or_zero}

truth_element : (b : Bool)
    → (pos 0 ≤ℤ pos (if b then 1 else 0)) × (pos (if b then 1 else 0) ≤ℤ pos 1)
truth_element true = (omega (arith, ints), omega (arith, ints))
truth_element false = (omega (arith, ints), omega (arith, ints))

pub element_of : (k : Kind) (z : ℤ) → IsNumber k z → IsElement k (element k z)
element_of Truths z h = truth_element (is_nonzero z)
element_of I8 z h = h
element_of I16 z h = h
element_of I32 z h = h
element_of I64 z h = h
element_of U8 z h = h
element_of U16 z h = h
element_of U32 z h = h
element_of U64 z h = h

element_zero : (k : Kind) → IsElement k (pos 0)
element_zero Truths = truth_element false
element_zero I8 = zero_number I8
element_zero I16 = zero_number I16
element_zero I32 = zero_number I32
element_zero I64 = zero_number I64
element_zero U8 = zero_number U8
element_zero U16 = zero_number U16
element_zero U32 = zero_number U32
element_zero U64 = zero_number U64

module _ (k : Kind) where
  elements_of : (zs : List ℤ) → ((i : ℕ) → IsNumber k (get_or zs i (pos 0)))
      → AreElements k (map (element k) zs)
  elements_of [] h i = element_zero k
  elements_of (z ∷ zs) h zero = element_of k z (h 0)
  elements_of (z ∷ zs) h (suc i) = elements_of zs (λ j. h (suc j)) i

  drop_elements : (n : ℕ) (zs : List ℤ) → AreElements k zs → AreElements k (drop n zs)
  drop_elements zero zs h = h
  drop_elements (suc n) [] h = h
  drop_elements (suc n) (z ∷ zs) h = drop_elements n zs (λ i. h (suc i))

  take_elements : (n : ℕ) (zs : List ℤ) → AreElements k zs → AreElements k (take n zs)
  take_elements zero zs h i = element_zero k
  take_elements (suc n) [] h i = element_zero k
  take_elements (suc n) (z ∷ zs) h zero = h 0
  take_elements (suc n) (z ∷ zs) h (suc i) = take_elements n zs (λ j. h (suc j)) i

  -- a number of a part, and 0 for none
  pub part_element : (zs : List ℤ) (a b : ℕ) (o : Option ℕ) → AreElements k zs
      → IsElement k (number_or_zero (slice_range zs a b) o)
  part_element zs a b None h = element_zero k
  part_element zs a b (Some j) h =
      take_elements (b - a) (drop a zs) (drop_elements a zs h) j

-- those of a lane
pub lane_elements : (c : Column) → AreNumbers c → AreElements c.kind (lane_numbers c)
lane_elements c h = elements_of c.kind c.items h
