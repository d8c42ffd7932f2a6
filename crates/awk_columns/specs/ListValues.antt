-- Lists by starts and stops as values, and the same lists one after another.
use Rattle.std.specs.Prelude.{◌≡◌, ℕ, ◌+◌, ◌-◌, ◌<◌, List, length, map}
use Rattle.std.specs.Prelude.{Result}
use Rattle.std.specs.List.{range_with_len}
use Rattle.awk_types.specs.DataType.{DataType}
use Rattle.awk_types.specs.Datum.{Datum, arr}
use Rattle.awk_types.specs.Gives.{refused_or}
use Rattle.awk_types.specs.Value.{Value, list}
use Rattle.awk_types.specs.ItemLimit.{too_many}
use Rattle.awk_types.specs.declared.fault.Fault.{Fault}
use Rattle.awk_lanes.specs.Column.{Column}
use Rattle.awk_lanes.specs.Places.{size_of, place_at}
use Rattle.awk_layout.specs.Layout.{Layout, offset_lists}
use Rattle.awk_layout.specs.Valid.{len, IsValid}
use Rattle.awk_layout.specs.Item.{run}
use Rattle.awk_gather.specs.Arrays.{array_item}
use Rattle.awk_columns.specs.Columns.{joined_items}

-- the list of the items from a start below a stop
abbrev pub list_at : Column → Column → Layout → ℕ → Value
list_at s t y i = list (run (array_item y) (place_at s i) (place_at t i - place_at s i))

-- all these lists
abbrev pub list_values : Column → Column → Layout → List Value
list_values s t y = map (list_at s t y) (range_with_len 0 (size_of s))

-- the items of all lists, unless they are too many
abbrev pub joined_datum : DataType → List Value → Result Datum Fault
joined_datum t vs = refused_or (too_many (length (joined_items vs))) (arr t (joined_items vs))

-- the list of the items from an offset below the next
abbrev pub list_between : Column → Layout → ℕ → Value
list_between o z i = list (run (array_item z) (place_at o i) (place_at o (i + 1) - place_at o i))

-- the same lists by offsets into other items, which they fill
pub record AreJoined (s t : Column) (y : Layout) (o : Column) (z : Layout) : Type 0 where
  pub valid : IsValid (offset_lists o z)
  pub size : size_of o ≡ size_of s + 1
  pub first : place_at o 0 ≡ 0
  pub last : place_at o (size_of s) ≡ len z
  pub each : (i : ℕ) → i < size_of s → list_at s t y i ≡ list_between o z i
