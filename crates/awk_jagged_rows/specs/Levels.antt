-- One level down from lists in pairs.
use Rattle.std.specs.Prelude.{◌≡◌, ◌≢◌, ℕ, ◌+◌, ◌<◌, ◌≤◌, Bool, true, false, ◌||◌, Option, Some}
use Rattle.std.specs.Prelude.{None, is_some, if◌then◌else◌}
use Rattle.awk_types.specs.ItemLimit.{item_limit}
use Rattle.awk_types.specs.Value.{Value}
use Rattle.awk_lanes.specs.Column.{Column}
use Rattle.awk_lanes.specs.Counted.{before, offsets_by, items_lane}
use Rattle.awk_lanes.specs.Places.{size_of, option_place_at, index_or_null}
use Rattle.awk_lanes.specs.declared.kind.Kind.TheVariants.{I64}
use Rattle.awk_layout.specs.Typing.{array_type}
use Rattle.awk_gather.specs.Arrays.{array_item}
use Rattle.awk_columns.specs.Lists.{Listed, length_of}
use Rattle.awk_jagged_rows.specs.RowTypes.{rows_of}
use Rattle.awk_jagged_rows.specs.Sides.{sides, are_lists}
use Rattle.awk_lanes.specs.Made.{lane_of}
use Rattle.awk_jagged_rows.specs.Rows.{lists_by, place_by, AreAlike, pair_at, AreListsIn}
use Rattle.awk_jagged_rows.specs.declared.row_lists.RowLists.{RowLists}
use Rattle.awk_jagged_rows.specs.declared.levels.Level.{Level}
use Rattle.awk_jagged_rows.specs.declared.levels.Level.TheVariants as level
use Rattle.awk_jagged_rows.specs.declared.levels.Rows.{Rows}

-- two lists of a pair have unequal lengths
abbrev pub AreUnlike : Listed → Listed → Type 0
AreUnlike xs ws = (i : ℕ) × (i < size_of ws.starts) × (length_of xs i ≢ length_of ws i)

abbrev pub AreCompared : Listed → Listed → Bool → Type 0
AreCompared xs ws true = AreUnlike xs ws
AreCompared xs ws false = AreAlike xs ws

-- how many rows the first i lists have
abbrev pub rows_before : Listed → ℕ → ℕ
rows_before ws i = before (length_of ws) i

abbrev pub row_count : Listed → ℕ
row_count ws = rows_before ws (size_of ws.starts)

-- the row that is item k of list i
abbrev pub row_at : Listed → ℕ → ℕ → Value
row_at l i k = array_item l.content (place_by l i k)

-- rows in pairs are all present
abbrev pub AllPresent : Listed → Listed → Type 0
AllPresent xs ws = (i k : ℕ) → i < size_of ws.starts → k < length_of ws i
    → are_lists (row_at xs i k) (row_at ws i k) ≡ true

-- an index has the place of each row that is present, and null for the others
pub record IsPresence (xs ws : Listed) (j : Column) : Type 0 where
  pub kind : j.kind ≡ I64
  pub size : size_of j ≡ row_count ws
  pub places : (i k : ℕ) → i < size_of ws.starts → k < length_of ws i
      → option_place_at j (rows_before ws i + k)
      ≡ (if are_lists (row_at xs i k) (row_at ws i k) then Some (rows_before ws i + k) else None)

abbrev pub IsRowIndex : Listed → Listed → Option Column → Type 0
IsRowIndex xs ws None = AllPresent xs ws
IsRowIndex xs ws (Some j) = IsPresence xs ws j

-- the rows of lists in pairs
pub record AreRows (xs ws : Listed) (r : Rows) : Type 0 where
  pub alike : AreAlike xs ws
  pub few : row_count ws ≤ item_limit
  pub offsets : r.offsets ≡ offsets_by (length_of ws) (size_of ws.starts)
  pub first_size : size_of r.xs.starts ≡ row_count ws
  pub second_size : size_of r.ws.starts ≡ row_count ws
  pub first : Bool
  pub second : Bool
  pub first_type : rows_of (array_type xs.content) ≡ Some (first, array_type r.xs.content)
  pub second_type : rows_of (array_type ws.content) ≡ Some (second, array_type r.ws.content)
  pub optional : is_some r.index ≡ (first || second)
  pub index : IsRowIndex xs ws r.index
  pub rows : (i k : ℕ) → i < size_of ws.starts → k < length_of ws i
      → (lists_by r.xs (rows_before ws i + k), lists_by r.ws (rows_before ws i + k))
      ≡ sides (row_at xs i k) (row_at ws i k)

abbrev pub IsLevel : Listed → Listed → Level → Type 0
IsLevel xs ws level.Uneven = AreUnlike xs ws
IsLevel xs ws level.TooMany = AreAlike xs ws × (item_limit < row_count ws)
IsLevel xs ws (level.Rows r) = AreRows xs ws r

-- the places of rows that are present, where some column of them is optional
abbrev pub IsIndexOf : Column → Option Column → Option Column → Option Column → Type 0
IsIndexOf p x w None = (is_some x || is_some w) ≡ false
IsIndexOf p x w (Some j) = ((is_some x || is_some w) ≡ true)
    × (j ≡ lane_of I64 (size_of p) (λ i. index_or_null i (option_place_at p i)))

-- the lists of rows in pairs, on one side, as a lane
abbrev pub pair_lane : Bool → Listed → Listed → RowLists → RowLists → Column
pair_lane second xs ws x w =
    items_lane I64 (length_of ws) (pair_at second xs ws x w) (size_of ws.starts)

-- rows in pairs by the lists that they are
pub record AreRowsBy (xs ws : Listed) (x w : RowLists) (o : Column) (r : Rows) : Type 0 where
  pub offsets : r.offsets ≡ o
  pub first : AreListsIn (pair_lane false xs ws x w) x r.xs
  pub second : AreListsIn (pair_lane true xs ws x w) w r.ws
  pub index : IsIndexOf (pair_lane true xs ws x w) x.index w.index r.index
