-- The numbers or truth values of an array as lanes, with its nulls.
use Rattle.std.specs.Prelude.{◌≡◌, ℕ, ◌<◌, ℤ, pos, negsuc, true, false, List, map}
use Rattle.std.specs.Prelude.{Option, Some, None}
use Rattle.std.specs.List.{list_any}
use Rattle.awk_types.specs.Value.{Value, null}
use Rattle.awk_lanes.specs.Column.{Column}
use Rattle.awk_lanes.specs.Made.{lane_of}
use Rattle.awk_lanes.specs.Numbers.{int_of}
use Rattle.awk_lanes.specs.Places.{size_of, at, option_place_at, IsOptionKind}
use Rattle.awk_lanes.specs.Words.{column, integers}
use Rattle.awk_lanes.specs.declared.kind.Kind.TheVariants.{Bool as Truths, I64}
use Rattle.awk_lanes.specs.declared.kind.Num.{Num}
use Rattle.awk_layout.specs.Layout.{Layout}
use Rattle.awk_layout.specs.Shown.{value_of_num}
use Rattle.awk_layout.specs.Typing.{array_items}
use Rattle.awk_layout.specs.Valid.{len}
use Rattle.awk_layout.specs.Item.{leaf_value, at_option}
use Rattle.awk_gather.specs.Arrays.{array_item}
use Rattle.awk_select.specs.Picks.{mask_place, take_place, is_outside}
use Rattle.awk_select.specs.declared.cells.Cells.{Cells}
use Rattle.awk_select.specs.declared.cells.Cells.TheVariants.{Nulls, Plain, Optional}
use Rattle.awk_select.specs.declared.places.Named.{Named}
use Rattle.awk_select.specs.declared.places.Named.TheVariants.{Outside, Null, At}

abbrev pub cell_shown : Option Num → Value
cell_shown None = null
cell_shown (Some x) = value_of_num x

-- the value at a place
abbrev pub cell_value : Cells → ℕ → Value
cell_value Nulls i = null
cell_value (Plain c) i = leaf_value c.kind (at c i)
cell_value (Optional j c) i = at_option (option_place_at j i) (λ k. leaf_value c.kind (at c k))

abbrev pub IsBelow : ℕ → Option ℕ → Type 0
IsBelow n None = Unit {0}
IsBelow n (Some k) = k < n

-- there is a value at a place
abbrev pub IsCell : Cells → ℕ → Type 0
IsCell Nulls i = Unit {0}
IsCell (Plain c) i = i < size_of c
IsCell (Optional j c) i =
    IsOptionKind j.kind × (i < size_of j) × IsBelow (size_of c) (option_place_at j i)

-- the values of an array, each by its place
pub record AreCells (x : Layout) (c : Cells) : Type 0 where
  pub there : (i : ℕ) → i < len x → IsCell c i
  pub values : (i : ℕ) → i < len x → array_item x i ≡ cell_value c i

-- ---- lanes of places

-- a place as a number of a lane, and -1 for null
abbrev pub place_number : Option ℕ → ℤ
place_number None = negsuc 0
place_number (Some k) = pos k

abbrev pub places_lane : List (Option ℕ) → Column
places_lane places = record { kind = I64; items = map place_number places }

-- what item i of a mask gives to its places, as numbers of a lane
abbrev pub mask_numbers : Layout → ℕ → List ℤ
mask_numbers m i = map place_number (mask_place i (array_item m i))

-- the place that item i of an index names, as a number of a lane
abbrev pub take_number : ℕ → Layout → ℕ → ℤ
take_number n ix i = place_number (take_place n (array_item ix i))

-- what an item of an index names among n items
abbrev pub IsNamed : ℕ → Value → Named → Type 0
IsNamed n v Outside = is_outside n v ≡ true
IsNamed n v Null = (is_outside n v ≡ false) × (take_place n v ≡ None)
IsNamed n v (At k) = (is_outside n v ≡ false) × (take_place n v ≡ Some k) × (k < n)

-- an item of an index names no place of n items, or its place is this number of a lane
abbrev pub IsTaken : ℕ → Value → Option Num → Type 0
IsTaken n v None = is_outside n v ≡ true
IsTaken n v (Some x) = (is_outside n v ≡ false) × (int_of x ≡ place_number (take_place n v))

-- some item of an index does not, or the places of all are this lane
abbrev pub AreTaken : ℕ → Layout → Option Column → Type 0
AreTaken n ix None = list_any (is_outside n) (array_items ix) ≡ true
AreTaken n ix (Some p) =
    (list_any (is_outside n) (array_items ix) ≡ false)
    × (p ≡ lane_of I64 (len ix) (take_number n ix))

-- ---- truth values

-- truth values by their bytes
abbrev pub truth_cells : List ℕ → Cells
truth_cells bs = Plain (column Truths (integers bs))
