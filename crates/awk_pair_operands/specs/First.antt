-- The first level of a pairing, of arrays and single values.
use Rattle.std.specs.Prelude.{◌≡◌, ℕ, ◌<◌, Bool, true, false, not, List, [], ◌∷◌, map}
use Rattle.std.specs.Prelude.{Option, Some, None}
use Rattle.std.specs.List.{flat_map}
use Rattle.awk_types.specs.Datum.{Datum, arr, one, datum_type}
use Rattle.awk_layout.specs.Layout.{Layout}
use Rattle.awk_layout.specs.Single.{own_datum}
use Rattle.awk_layout.specs.Typing.{array_type, array_items}
use Rattle.awk_layout.specs.Valid.{len}
use Rattle.awk_layout.specs.declared.datum.Operand.{Operand}
use Rattle.awk_gather.specs.Arrays.{array_item}
use Rattle.awk_open.specs.Opened.{AreLong}
use Rattle.awk_pair_sides.specs.Rows.{rows_at}
use Rattle.awk_pair_sides.specs.Sides.{equally_long, side_at, side_lengths}
use Rattle.awk_pair_operands.specs.Pairs.{typs, datum_side, some_array, first_rows}
use Rattle.awk_pair_operands.specs.declared.first.First.{First}
use Rattle.awk_pair_operands.specs.declared.first.First.TheVariants as first

abbrev pub all_data : List Operand → List Datum
all_data xs = map own_datum xs

-- the array that a datum is kept as: a single value is an array of one item
abbrev pub IsColumn : Datum → Layout → Type 0
IsColumn (arr t vs) y = (array_type y ≡ t) × (array_items y ≡ vs)
IsColumn (one t v) y = (array_type y ≡ t) × (len y ≡ 1) × (array_item y 0 ≡ v)

abbrev pub AreColumns : List Datum → List Layout → Type 0
AreColumns [] [] = Unit {0}
AreColumns (d ∷ ds) (y ∷ ys) = IsColumn d y × AreColumns ds ys
AreColumns [] (y ∷ ys) = ⊥
AreColumns (d ∷ ds) [] = ⊥

-- ---- lengths

abbrev pub some_length : Option ℕ → List ℕ
some_length None = []
some_length (Some n) = n ∷ []

abbrev pub operand_lengths : Operand → List ℕ
operand_lengths x = side_lengths (datum_side (own_datum x))

-- how long the arrays are
abbrev pub array_lengths : List Operand → List ℕ
array_lengths xs = flat_map operand_lengths xs

abbrev pub first_of : List ℕ → Option ℕ
first_of [] = None
first_of (n ∷ ns) = Some n

-- ---- rows

-- y has what a datum gives to each of n rows
pub record IsRowColumn (n : ℕ) (d : Datum) (y : Layout) : Type 0 where
  pub size : len y ≡ n
  pub typ : array_type y ≡ datum_type d
  pub items : (k : ℕ) → k < n → array_item y k ≡ side_at k (datum_side d)

abbrev pub AreRowColumns : ℕ → List Datum → List Layout → Type 0
AreRowColumns n [] [] = Unit {0}
AreRowColumns n (d ∷ ds) (y ∷ ys) = IsRowColumn n d y × AreRowColumns n ds ys
AreRowColumns n [] (y ∷ ys) = ⊥
AreRowColumns n (d ∷ ds) [] = ⊥

-- the first rows of data as arrays, each with an item for each row
pub record AreFirstRows (ds : List Datum) (single : Bool) (n : ℕ) (ys : List Layout)
    : Type 0 where
  pub even : equally_long (map datum_side ds) ≡ true
  pub is_single : single ≡ not (some_array ds)
  pub types : map array_type ys ≡ typs ds
  pub long : AreLong n ys
  pub rows : rows_at ys n ≡ first_rows ds

abbrev pub IsFirst : List Datum → First → Type 0
IsFirst ds first.Unequal = equally_long (map datum_side ds) ≡ false
IsFirst ds (first.Rows single n ys) = AreFirstRows ds single n ys
