-- Rows of lists, whose items are parts of those of all lists of an array.
use Rattle.std.specs.Prelude.{◌≡◌, ℕ, ◌<◌, ◌≤◌, length, take, drop, Option, Some, None}
use Rattle.awk_types.specs.ItemLimit.{item_limit}
use Rattle.awk_lanes.specs.Column.{Column}
use Rattle.awk_lanes.specs.Counted.{before}
use Rattle.awk_lanes.specs.Places.{size_of, place_at, AreSpans}
use Rattle.awk_layout.specs.Layout.{Layout}
use Rattle.awk_layout.specs.Typing.{array_items}
use Rattle.awk_columns.specs.Columns.{joined_items}
use Rattle.awk_columns.specs.Lists.{items_at, span_length}

-- where the items of each row of lists begin and end among those of all lists of an array
pub record AreRows (s t : Column) (y : Layout) (a b : Column) : Type 0 where
  pub size : size_of a ≡ size_of s
  pub spans : AreSpans a b (length (joined_items (array_items y)))
  pub lengths : (i : ℕ) → i < size_of s
      → span_length a b i ≡ length (joined_items (items_at s t y i))
  pub items : (i : ℕ) → i < size_of s
      → take (span_length a b i) (drop (place_at a i) (joined_items (array_items y)))
      ≡ joined_items (items_at s t y i)

-- how many items lists have together, or none where they are more than a column may have
abbrev pub IsSum : Column → Column → Option ℕ → Type 0
IsSum a b None = item_limit < before (span_length a b) (size_of a)
IsSum a b (Some n) = (n ≡ before (span_length a b) (size_of a)) × (n ≤ item_limit)
