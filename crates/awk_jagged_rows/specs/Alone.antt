-- One pair of lists alone.
use Rattle.std.specs.Prelude.{◌≡◌, ℕ, ◌-◌}
use Rattle.awk_types.specs.Value.{value_list}
use Rattle.awk_lanes.specs.Places.{size_of}
use Rattle.awk_layout.specs.Item.{run}
use Rattle.awk_layout.specs.Layout.{Layout}
use Rattle.awk_layout.specs.Typing.{array_items}
use Rattle.awk_gather.specs.Arrays.{array_item}
use Rattle.awk_columns.specs.Lists.{Listed}
use Rattle.awk_jagged_rows.specs.Levels.{AreRows}
use Rattle.awk_jagged_rows.specs.Rows.{lists_by}
use Rattle.awk_jagged_rows.specs.declared.levels.Rows.{Rows}

-- a is the items of x from a start below a stop, as one list
pub record IsBetween (x : Layout) (start stop : ℕ) (a : Listed) : Type 0 where
  pub size : size_of a.starts ≡ 1
  pub content : a.content ≡ x
  pub list : lists_by a 0 ≡ value_list (run (array_item x) start (stop - start))

-- a is list i of l alone
pub record IsOnly (l : Listed) (i : ℕ) (a : Listed) : Type 0 where
  pub size : size_of a.starts ≡ 1
  pub content : a.content ≡ l.content
  pub list : lists_by a 0 ≡ lists_by l i

-- the rows of pair i
pub record AreRowsOfOne (xs ws : Listed) (i : ℕ) (r : Rows) : Type 0 where
  pub x : Listed
  pub w : Listed
  pub first : IsOnly xs i x
  pub second : IsOnly ws i w
  pub rows : AreRows x w r

-- an array as one list
pub record IsWhole (x : Layout) (a : Listed) : Type 0 where
  pub size : size_of a.starts ≡ 1
  pub content : a.content ≡ x
  pub list : lists_by a 0 ≡ array_items x
