-- Columns of lists whose items lie in a row.
use Rattle.std.specs.Prelude.{◌≡◌, ℕ, ◌+◌, ◌<◌, length}
use Rattle.std.specs.List.{range_with_len}
use Rattle.awk_types.specs.DataType.{var}
use Rattle.awk_types.specs.Value.{list}
use Rattle.awk_lanes.specs.Column.{Column}
use Rattle.awk_lanes.specs.Counted.{before, offsets_by}
use Rattle.awk_lanes.specs.Places.{place_at}
use Rattle.awk_layout.specs.Item.{run}
use Rattle.awk_layout.specs.Layout.{Layout}
use Rattle.awk_layout.specs.Typing.{array_type}
use Rattle.awk_layout.specs.Valid.{len}
use Rattle.awk_gather.specs.Arrays.{array_item}
use Rattle.awk_counts.specs.Counted.{spans}
use Rattle.awk_columns.specs.Lists.{Listed, length_of}

-- lists whose items lie in a row, from a first one on
abbrev pub LieInRow : Column → Column → ℕ → Type 0
LieInRow s t first = spans s t ≡ range_with_len first (length (spans s t))

-- ---- from the first item of a content on

-- the items of x are these lists
abbrev pub HasLists : Layout → Listed → Type 0
HasLists x l = (i : ℕ) → i < len x
    → array_item x i ≡ list (run (array_item l.content) (place_at l.starts i) (length_of l i))

-- o has where each list of x begins, counted from 0, and where the last one ends
abbrev pub AreEnds : Layout → Column → Type 0
AreEnds x o = (l : Listed) → HasLists x l → o ≡ offsets_by (length_of l) (len x)

-- z has the items of the lists of x, one list after another
pub record HoldsItems (x z : Layout) : Type 0 where
  pub typ : array_type x ≡ var (array_type z)
  pub size : (l : Listed) → HasLists x l → len z ≡ before (length_of l) (len x)
  pub items : (l : Listed) → HasLists x l → (i k : ℕ) → i < len x → k < length_of l i
      → array_item z (before (length_of l) i + k)
      ≡ array_item l.content (place_at l.starts i + k)
