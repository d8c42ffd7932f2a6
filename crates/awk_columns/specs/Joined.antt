-- Lists joined: their items one after another, and offsets into them.
use Rattle.std.specs.Prelude.{◌≡◌, ℕ, ◌+◌, ◌-◌, ◌<◌, ◌≤◌, ◌^◌, length}
use Rattle.std.specs.List.{flat_map, range_with_len}
use Rattle.awk_lanes.specs.Column.{Column}
use Rattle.awk_lanes.specs.Places.{size_of, place_at, IsOffsets}
use Rattle.awk_layout.specs.Layout.{Layout}
use Rattle.awk_layout.specs.Valid.{len, IsValid}
use Rattle.awk_layout.specs.Typing.{array_type, array_items}
use Rattle.awk_layout.specs.Item.{run}
use Rattle.awk_columns.specs.Lists.{items_at}
use Rattle.awk_gather.specs.Arrays.{array_item}
use Rattle.awk_counts.specs.Counted.{offsets_lane}
use Rattle.awk_types.specs.ItemLimit.{item_limit}
use Rattle.awk_columns.specs.declared.lists.Joined.{Joined}
use Rattle.awk_columns.specs.declared.lists.Joined.TheVariants.{TooMany, Lists}

-- offsets of n lists that fill a list of this length
pub record AreOffsets (o : Column) (n whole : ℕ) : Type 0 where
  pub offsets : IsOffsets o whole
  pub fits : size_of o ≤ 2 ^ 63
  pub size : size_of o ≡ n + 1
  pub first : place_at o 0 ≡ 0
  pub last : place_at o n ≡ whole
  pub within : (i : ℕ) → i < n → place_at o i + (place_at o (i + 1) - place_at o i) ≤ whole

pub record JoinsLists (s t : Column) (y : Layout) (o : Column) (z : Layout) : Type 0 where
  pub typ : array_type z ≡ array_type y
  pub valid : IsValid z
  pub offsets : AreOffsets o (size_of s) (len z)
  pub lane : o ≡ offsets_lane s t
  pub lengths : (i : ℕ) → i < size_of s → place_at o (i + 1)
      ≡ place_at o i + (place_at t i - place_at s i)
  pub lists : (i : ℕ) → i < size_of s
      → run (array_item y) (place_at s i) (place_at t i - place_at s i)
      ≡ run (array_item z) (place_at o i) (place_at o (i + 1) - place_at o i)
  pub column : array_items z ≡ flat_map (items_at s t y) (range_with_len 0 (size_of s))

-- how many items lists have together
abbrev pub total : Column → Column → Layout → ℕ
total s t y = length (flat_map (items_at s t y) (range_with_len 0 (size_of s)))

abbrev pub IsJoined : Column → Column → Layout → Joined → Type 0
IsJoined s t y TooMany = item_limit < total s t y
IsJoined s t y (Lists o z) = (total s t y ≤ item_limit) × JoinsLists s t y o z
