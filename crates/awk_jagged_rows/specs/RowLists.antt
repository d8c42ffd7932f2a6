-- The rows of an array as lists, each at its place or null.
use Rattle.std.specs.Prelude.{◌≡◌, ℕ, ◌<◌, ◌^◌, Option, Some, None, is_some}
use Rattle.awk_lanes.specs.Column.{Column}
use Rattle.awk_lanes.specs.Places.{size_of, option_place_at, AreSpans, IsOptionKind}
use Rattle.awk_layout.specs.Item.{at_option}
use Rattle.awk_layout.specs.Layout.{Layout}
use Rattle.awk_layout.specs.Typing.{array_type}
use Rattle.awk_layout.specs.Valid.{len, IsValid}
use Rattle.awk_gather.specs.Arrays.{array_item}
use Rattle.awk_columns.specs.ListValues.{list_at}
use Rattle.awk_types.specs.Parts.{list_item}
use Rattle.awk_jagged_rows.specs.RowTypes.{rows_of}
use Rattle.awk_jagged_rows.specs.declared.row_lists.RowLists.{RowLists}

-- the list that a row is, or none where it is null
abbrev pub list_place : Option Column → ℕ → Option ℕ
list_place None i = Some i
list_place (Some j) i = option_place_at j i

-- there is a row at a place
abbrev pub HasPlace : Option Column → ℕ → Type 0
HasPlace None i = Unit {0}
HasPlace (Some j) i = IsOptionKind j.kind × (i < size_of j)

-- an array's lists, with an index that is handed on
pub record AreListsAt (x : Layout) (given : Option Column) (r : RowLists) : Type 0 where
  pub index : r.index ≡ given
  pub typ : list_item (array_type x) ≡ Some (array_type r.content)
  pub spans : AreSpans r.starts r.stops (len r.content)
  pub valid : IsValid r.content
  pub size : size_of r.starts ≡ len x
  pub items : (i : ℕ) → i < len x → array_item x i ≡ list_at r.starts r.stops r.content i

-- the rows of an array
pub record AreRowsOf (x : Layout) (r : RowLists) : Type 0 where
  pub typ : rows_of (array_type x) ≡ Some (is_some r.index, array_type r.content)
  pub spans : AreSpans r.starts r.stops (len r.content)
  pub valid : IsValid r.content
  pub small : size_of r.starts < 2 ^ 63
  pub there : (i : ℕ) → i < len x → HasPlace r.index i
  pub places : (i k : ℕ) → i < len x → list_place r.index i ≡ Some k → k < size_of r.starts
  pub items : (i : ℕ) → i < len x → array_item x i
      ≡ at_option (list_place r.index i) (list_at r.starts r.stops r.content)
