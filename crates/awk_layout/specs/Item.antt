-- The item of a layout at a place.
use Rattle.std.specs.Prelude.{ℕ, suc, zero, ◌+◌, ◌-◌, ◌*◌, not, List, map, get_or, if◌then◌else◌}
use Rattle.std.specs.Prelude.{Bool, true, false, ℤ, Option, Some, None}
use Rattle.std.specs.List.{range_with_len}
use Rattle.awk_types.specs.Value.{Value, Values, int, truth, null, list, row, alt, no_values, value}
use Rattle.awk_lanes.specs.declared.kind.Kind.{Kind}
use Rattle.awk_lanes.specs.declared.kind.Kind.TheVariants.{Bool as Truths, I8, I16, I32, I64, U8}
use Rattle.awk_lanes.specs.declared.kind.Kind.TheVariants.{U16, U32, U64}
use Rattle.awk_lanes.specs.Column.{Column}
use Rattle.awk_lanes.specs.Numbers.{is_nonzero}
use Rattle.awk_lanes.specs.Places.{at, place_at, option_place_at}
use Rattle.awk_layout.specs.Layout.{Layout, Layouts, empty, flat, regular, lists, offset_lists}
use Rattle.awk_layout.specs.Layout.{rows, indexed, optional, byte_masked, bit_masked, unmasked}
use Rattle.awk_layout.specs.Layout.{union, no_layouts, layout}
use Rattle.awk_layout.specs.Valid.{len}

-- the value that a number of a kind is
abbrev pub leaf_value : Kind → ℤ → Value
leaf_value Truths z = truth (is_nonzero z)
leaf_value I8 z = int z
leaf_value I16 z = int z
leaf_value I32 z = int z
leaf_value I64 z = int z
leaf_value U8 z = int z
leaf_value U16 z = int z
leaf_value U32 z = int z
leaf_value U64 z = int z

-- what f gives at n places from `first` on
abbrev pub run : (ℕ → Value) → ℕ → ℕ → Values
run f first zero = no_values
run f first (suc n) = value (f first) (run f (suc first) n)

-- what f gives at a place, and null where there is none
abbrev pub at_option : Option ℕ → (ℕ → Value) → Value
at_option None f = null
at_option (Some k) f = f k

-- whether two truth values are the same
abbrev pub agrees : Bool → Bool → Bool
agrees true b = b
agrees false b = not b

-- whether the byte of a mask at a place says that the item is there
abbrev pub byte_shows : Column → Bool → ℕ → Bool
byte_shows m valid_when i = agrees valid_when (is_nonzero (at m i))

-- whether the bit of a mask at a place says so
abbrev pub bit_shows : List Bool → Bool → ℕ → Bool
bit_shows m valid_when i = agrees valid_when (get_or m i false)

abbrev mutual
  pub item : Layout → ℕ → Value
  item empty i = null
  item (flat c) i = leaf_value c.kind (at c i)
  item (regular size n x) i = list (run (item x) (i * size) size)
  item (lists s t x) i = list (run (item x) (place_at s i) (place_at t i - place_at s i))
  item (offset_lists o x) i = list (run (item x) (place_at o i) (place_at o (i + 1) - place_at o i))
  item (rows names n xs) i = row (items_across xs i)
  item (indexed j x) i = item x (place_at j i)
  item (optional j x) i = at_option (option_place_at j i) (item x)
  item (byte_masked m v x) i = if byte_shows m v i then item x i else null
  item (bit_masked m v x) i = if bit_shows m v i then item x i else null
  item (unmasked n x) i = item x i
  item (union t j xs) i = alt (place_at t i) (item_of xs (place_at t i) (place_at j i))

  -- the items of all contents at one place
  pub items_across : Layouts → ℕ → Values
  items_across no_layouts i = no_values
  items_across (layout x xs) i = value (item x i) (items_across xs i)

  -- the item of the k-th content
  pub item_of : Layouts → ℕ → ℕ → Value
  item_of no_layouts k i = null
  item_of (layout x xs) zero i = item x i
  item_of (layout x xs) (suc k) i = item_of xs k i

-- the items at all places, in order
abbrev pub items : Layout → List Value
items x = map (item x) (range_with_len 0 (len x))
