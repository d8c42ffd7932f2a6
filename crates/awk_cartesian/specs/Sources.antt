-- Operands as lists of rows.
use Rattle.std.specs.Prelude.{◌≡◌, ℕ, ◌+◌, ◌<◌, Bool, true, false, ◌&&◌, ◌||◌, if◌then◌else◌, List}
use Rattle.std.specs.Prelude.{[], ◌∷◌, ◌++◌, length, map, get_or, Option, Some, None, is_some}
use Rattle.std.specs.List.{list_all, list_any}
use Rattle.awk_types.specs.DataType.{DataType}
use Rattle.awk_types.specs.Value.{Value, null, list, values_from}
use Rattle.awk_lanes.specs.Column.{Column}
use Rattle.awk_layout.specs.Layout.{Layout}
use Rattle.awk_layout.specs.Typing.{array_type}
use Rattle.awk_layout.specs.Datum.{datum_of}
use Rattle.awk_layout.specs.declared.datum.Datum.{Datum}
use Rattle.awk_columns.specs.Columns.{is_present, list_items}
use Rattle.awk_columns.specs.Lists.{Listed}
use Rattle.awk_merge_operands.specs.Concatenate.{row_of}
use Rattle.awk_merge_operands.specs.Operands.{column_in, list_place, IndexesAll}
use Rattle.awk_merge_operands.specs.declared.operands.Axis.{Axis}
use Rattle.awk_merge_operands.specs.declared.operands.Axis.TheVariants.{Arrays, Rows as ByRows}
use Rattle.awk_cartesian.specs.Cartesian.{has_null_rows, operand_item, item_types}
use Rattle.awk_cartesian.specs.Spans.{first_lane, length_lane}
use Rattle.awk_cartesian.specs.declared.sources.Source.{Source}
use Rattle.awk_products.specs.Sources.{IsSource, AreSources, source_list, lists_in, zeros}
use Rattle.awk_products.specs.declared.sources.Sources.{Sources}
use Rattle.awk_cartesian.specs.declared.rows.Rows.{Rows}

-- ---- operands

-- the rows of an operand, each a list: those that it has, or the one that the array itself is
abbrev pub rows_in : Axis → Datum → List Value
rows_in Arrays d = list (values_from (column_in d)) ∷ []
rows_in ByRows d = column_in d

abbrev pub may_be_null : Axis → Datum → Bool
may_be_null Arrays d = false
may_be_null ByRows d = has_null_rows (datum_of d)

-- n rows that are lists by an index
pub record IsOfLists (j : Option Column) (n : ℕ) (l : Listed) (x : Source) : Type 0 where
  pub index : x.index ≡ j
  pub first : x.first ≡ first_lane j l.starts l.stops n
  pub long : x.length ≡ length_lane j l.starts l.stops n
  pub content : x.content ≡ l.content

-- n rows of no lists
pub record IsOfNone (j : Option Column) (n : ℕ) (y : Layout) (x : Source) : Type 0 where
  pub index : x.index ≡ j
  pub first : x.first ≡ zeros n
  pub long : x.length ≡ zeros n
  pub content : x.content ≡ y

-- rows of a type of lists as a source, with an index where they may be null
pub record IsOpened (vs : List Value) (item : Option DataType) (nulls : Bool) (x : Source)
    : Type 0 where
  pub source : IsSource (length vs) x.first x.length x.content
  pub lists : (i : ℕ) → i < length vs
      → source_list x.first x.length x.content i ≡ list_items (get_or vs i null)
  pub typ : item ≡ Some (array_type x.content)
  pub index : IndexesAll x.index (length vs)
  pub present : (i : ℕ) → i < length vs
      → is_some (list_place x.index i) ≡ is_present (get_or vs i null)
  pub optional : is_some x.index ≡ nulls

-- the place of a row, or none where it is null
abbrev pub present_place : Bool → ℕ → Option ℕ
present_place b i = if b then Some i else None

-- an index of the rows that are null by neither of two
pub record AreBoth (n : ℕ) (r s both : Option Column) : Type 0 where
  pub index : IndexesAll both n
  pub places : (i : ℕ) → i < n → (b : Bool) → list_place r i ≡ present_place b i
      → list_place both i ≡ present_place (b && is_some (list_place s i)) i
  pub optional : is_some both ≡ (is_some r || is_some s)

-- one source more
abbrev pub pushed : Sources → Source → Sources
pushed x s = record {
  firsts = x.firsts ++ s.first ∷ [];
  lengths = x.lengths ++ s.length ∷ [];
  contents = x.contents ++ s.content ∷ [];
}

-- an operand is a list, or its items are lists
abbrev pub IsListed : Axis → Datum → Type 0
IsListed axis d = is_some (operand_item axis (datum_of d)) ≡ true

-- the rows of operands, and an index where one may be null
pub record AreRows (axis : Axis) (n : ℕ) (ds : List Datum) (x : Rows) : Type 0 where
  pub sources : AreSources n x.sources
  pub count : length x.sources.contents ≡ length ds
  pub lists : (i : ℕ) → i < n
      → lists_in x.sources i ≡ map (λ d. list_items (get_or (rows_in axis d) i null)) ds
  pub types : item_types axis (map datum_of ds) ≡ Some (map array_type x.sources.contents)
  pub index : IndexesAll x.index n
  pub present : (i : ℕ) → i < n → list_place x.index i
      ≡ present_place (list_all is_present (row_of (map (rows_in axis) ds) i)) i
  pub optional : is_some x.index ≡ list_any (may_be_null axis) ds
