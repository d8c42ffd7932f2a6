-- Lists in pairs whose rows lie in order.
use Rattle.std.specs.Prelude.{◌≡◌, ℕ, ◌+◌, ◌<◌, ◌≤◌, None}
use Rattle.awk_lanes.specs.Places.{size_of, place_at}
use Rattle.awk_lanes.specs.declared.counted.Offsets.{Offsets}
use Rattle.awk_layout.specs.Valid.{len}
use Rattle.awk_columns.specs.Lists.{Listed, items_at, length_of}
use Rattle.awk_jagged_rows.specs.Levels.{row_count, rows_before}
use Rattle.awk_jagged_rows.specs.Rows.{lists_by}
use Rattle.awk_jagged_rows.specs.declared.in_order.Firsts.{Firsts}
use Rattle.awk_jagged_rows.specs.declared.levels.Rows.{Rows}
use Rattle.awk_jagged_rows.specs.declared.row_lists.RowLists.{RowLists}

-- items of lists lie one after another from a place on
pub record IsFirst (l : Listed) (first : ℕ) : Type 0 where
  pub within : first + row_count l ≤ len l.content
  pub order : (i : ℕ) → i < size_of l.starts → 0 < length_of l i
      → place_at l.starts i ≡ first + rows_before l i

-- rows in pairs lie in order, and none may be null
pub record AreFirsts (xs ws : Listed) (x w : RowLists) (f : Firsts) : Type 0 where
  pub x_whole : x.index ≡ None
  pub w_whole : w.index ≡ None
  pub first : IsFirst xs f.x
  pub second : IsFirst ws f.w

-- so many rows from a place on
pub record AreRowsFrom (r : RowLists) (first count : ℕ) (l : Listed) : Type 0 where
  pub size : size_of l.starts ≡ count
  pub content : l.content ≡ r.content
  pub lists : (k : ℕ) → k < count
      → lists_by l k ≡ items_at r.starts r.stops r.content (first + k)

pub record AreRowsInOrder (x w : RowLists) (f : Firsts) (o : Offsets) (r : Rows) : Type 0 where
  pub offsets : r.offsets ≡ o.lane
  pub index : r.index ≡ None
  pub first : AreRowsFrom x f.x o.total r.xs
  pub second : AreRowsFrom w f.w o.total r.ws
