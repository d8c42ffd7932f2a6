-- Lists of one class, by their starts, stops and content.
use Rattle.std.specs.Prelude.{◌≡◌, ℕ, ◌+◌, ◌-◌, ◌<◌, ◌^◌, List, map, Some, None}
use Rattle.std.specs.List.{range_with_len}
use Rattle.awk_types.specs.Value.{Value, value_list}
use Rattle.awk_lanes.specs.Column.{Column}
use Rattle.awk_lanes.specs.Places.{size_of, at, place_at, AreSpans}
use Rattle.awk_layout.specs.Layout.{Layout}
use Rattle.awk_layout.specs.Valid.{len, IsValid}
use Rattle.awk_layout.specs.Item.{run}
use Rattle.awk_gather.specs.Arrays.{array_item}
use Rattle.awk_columns.specs.ListClass.{Class}

-- list i has the content's items from start i below stop i
pub record Listed : Type 0 where
  pub class : Class
  pub starts : Column
  pub stops : Column
  pub content : Layout

-- the items from a start below a stop, as one list
abbrev pub items_at : Column → Column → Layout → ℕ → List Value
items_at s t y i = value_list (run (array_item y) (place_at s i) (place_at t i - place_at s i))

-- all these lists
abbrev pub all_items_at : Column → Column → Layout → List (List Value)
all_items_at s t y = map (items_at s t y) (range_with_len 0 (size_of s))

-- how many items a list has
abbrev pub span_length : Column → Column → ℕ → ℕ
span_length s t i = place_at t i - place_at s i

-- lists of one class: of a sized one each has this length
abbrev pub AreOfClass : Class → Column → Column → Type 0
AreOfClass None s t = Unit {0}
AreOfClass (Some n) s t = (i : ℕ) → i < size_of s → place_at t i - place_at s i ≡ n

pub record AreLists (class : Class) (s t : Column) (y : Layout) : Type 0 where
  pub spans : AreSpans s t (len y)
  pub fits : size_of s < 2 ^ 63
  pub valid : IsValid y
  pub same_class : AreOfClass class s t

-- how many items list i has
abbrev pub length_of : Listed → ℕ → ℕ
length_of l i = span_length l.starts l.stops i

-- each list begins where the one before it ends
abbrev pub AreInRow : Column → Column → Type 0
AreInRow s t = (i : ℕ) → i + 1 < size_of s → at s (i + 1) ≡ at t i
