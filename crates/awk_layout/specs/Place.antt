-- What an item is, one level down.
use Rattle.std.specs.Prelude.{ℕ, suc, zero, ◌+◌, ◌-◌, ◌*◌, ◌<◌, ◌≤◌, ◌==◌, List, Option, Some, None}
use Rattle.std.specs.Prelude.{ℤ, if◌then◌else◌}
use Rattle.std.specs.Ordering.{int_eq}
use Rattle.awk_types.specs.DataType.{Name}
use Rattle.awk_types.specs.Value.{Value, null, list, row, alt}
use Rattle.awk_lanes.specs.Numbers.{nat_of}
use Rattle.awk_lanes.specs.Places.{at, place_at, option_place_at}
use Rattle.awk_layout.specs.Layout.{Layout, Layouts, height, heights, empty, flat, regular, lists}
use Rattle.awk_layout.specs.Layout.{offset_lists, rows, indexed, optional, byte_masked, bit_masked}
use Rattle.awk_layout.specs.Layout.{unmasked, union, no_layouts, layout}
use Rattle.awk_layout.specs.Valid.{len, IsValid, AllValid, AllReach}
use Rattle.awk_layout.specs.Item.{item, items_across, leaf_value, run, byte_shows, bit_shows}

pub data Case : Type 0 where
  -- a number or a truth value
  number : Value → Case
  -- the list of the content's items from a place below another
  span : Layout → ℕ → ℕ → Case
  -- the row of the contents' items at a place
  across : Option (List Name) → Layouts → ℕ → Case
  -- null
  missing : Case
  -- the content's item at a place
  through : Layout → ℕ → Case
  -- of the alternative with this tag, the item at a place
  alternative : ℕ → Layout → ℕ → Case

-- the value that a case is
abbrev pub value_of : Case → Value
value_of (number v) = v
value_of (span x lo hi) = list (run (item x) lo (hi - lo))
value_of (across names xs i) = row (items_across xs i)
value_of missing = null
value_of (through x i) = item x i
value_of (alternative tag x i) = alt tag (item x i)

-- the k-th of these, or the layout without items
abbrev pub nth : Layouts → ℕ → Layout
nth no_layouts k = empty
nth (layout x xs) zero = x
nth (layout x xs) (suc k) = nth xs k

-- an empty list is from 0 below 0, wherever it stands
abbrev pub span_between : Layout → ℤ → ℤ → Case
span_between x start stop =
    if int_eq start stop then span x 0 0 else span x (nat_of start) (nat_of stop)

abbrev pub through_option : Layout → Option ℕ → Case
through_option x None = missing
through_option x (Some k) = through x k

-- the item of a layout at a place
abbrev pub case_of : Layout → ℕ → Case
case_of empty i = missing
case_of (flat c) i = number (leaf_value c.kind (at c i))
case_of (regular size n x) i = if size == 0 then span x 0 0 else span x (i * size) (i * size + size)
case_of (lists s t x) i = span_between x (at s i) (at t i)
case_of (offset_lists o x) i = span_between x (at o i) (at o (i + 1))
case_of (rows names n xs) i = across names xs i
case_of (indexed j x) i = through x (place_at j i)
case_of (optional j x) i = through_option x (option_place_at j i)
case_of (byte_masked m v x) i = if byte_shows m v i then through x i else missing
case_of (bit_masked m v x) i = if bit_shows m v i then through x i else missing
case_of (unmasked n x) i = through x i
case_of (union t j xs) i = alternative (place_at t i) (nth xs (place_at t i)) (place_at j i)

-- what a case speaks of is valid, of a height below h, and has the items
abbrev pub IsWithin : ℕ → Case → Type 0
IsWithin h (number v) = Unit {0}
IsWithin h (span x lo hi) = (lo ≤ hi) × (hi ≤ len x) × (height x < h) × IsValid x
IsWithin h (across names xs i) = AllReach (i + 1) xs × (heights xs < h) × AllValid xs
IsWithin h missing = Unit {0}
IsWithin h (through x i) = (i < len x) × (height x < h) × IsValid x
IsWithin h (alternative tag x i) = (i < len x) × (height x < h) × IsValid x
