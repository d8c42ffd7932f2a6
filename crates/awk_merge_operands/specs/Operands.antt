-- What operands that are joined are: their columns, and the lists of each row among those of all.
use Rattle.std.specs.Prelude.{◌≡◌, ◌+◌, ◌-◌, ◌*◌, ◌/◌, ◌%◌, ◌<◌, ◌≤◌, ◌∷◌, [], ℕ, ℤ, pos, negsuc}
use Rattle.std.specs.Prelude.{Bool, if◌then◌else◌, List, length, map, get_or, Option, Some, None}
use Rattle.std.specs.Prelude.{is_some, Result}
use Rattle.std.specs.List.{list_all, range_with_len}
use Rattle.awk_types.specs.DataType.{DataType, var, opt, types_from}
use Rattle.awk_types.specs.Datum as shown
use Rattle.awk_types.specs.Gives.{refused_or, ◌or◌}
use Rattle.awk_types.specs.IsType.{AreTypes}
use Rattle.awk_types.specs.ItemLimit.{too_many}
use Rattle.awk_types.specs.Simple.{AreSimple}
use Rattle.awk_types.specs.Value.{Value, null, list, values_from}
use Rattle.awk_types.specs.declared.fault.Fault.{Fault}
use Rattle.awk_types.specs.declared.fault.Fault.TheVariants.{Lengths}
use Rattle.awk_lanes.specs.Column.{Column}
use Rattle.awk_lanes.specs.Places.{size_of, at, place_at, option_place_at, IsIndexKind}
use Rattle.awk_lanes.specs.Places.{IsOptionalIndex, IsOptionKind}
use Rattle.awk_lanes.specs.declared.kind.Kind.TheVariants.{I64}
use Rattle.awk_layout.specs.Datum.{kept}
use Rattle.awk_layout.specs.Item.{run, at_option}
use Rattle.awk_layout.specs.Layout.{Layout}
use Rattle.awk_layout.specs.Typing.{array_type, array_items}
use Rattle.awk_layout.specs.declared.datum.Datum.{Datum}
use Rattle.awk_gather.specs.Arrays.{array_item}
use Rattle.awk_columns.specs.Columns.{is_present, joined_items}
use Rattle.awk_lanes.specs.Made.{lane_of}
use Rattle.awk_unify.specs.Carry.{Carry}
use Rattle.awk_merge_operands.specs.Concatenate.{joined_row, are_long, values_fault, joined_values}
use Rattle.awk_merge_sides.specs.Sides.{Carries}
use Rattle.awk_merge_operands.specs.declared.operands.Axis.{Axis}

-- ---- operands as columns

abbrev pub column_in : Datum → List Value
column_in d = array_items (kept d)

-- the values of each become values of the type
abbrev pub AreCarriedOperands : List Datum → List Carry → DataType → Type 0
AreCarriedOperands [] [] t = Unit {0}
AreCarriedOperands (d ∷ ds) (f ∷ fs) t =
    Carries (array_type (kept d)) f t × AreCarriedOperands ds fs t
AreCarriedOperands ds fs t = ⊥

-- types as arrays have them
pub record AreLawful (ts : List DataType) : Type 0 where
  pub are_types : AreTypes (types_from ts)
  pub are_simple : AreSimple (types_from ts)

-- lists of any length, or optional ones
abbrev pub IsRowsType : DataType → Type 0
IsRowsType (var t) = Unit {0}
IsRowsType (opt (var t)) = Unit {0}
IsRowsType t = ⊥

-- ---- rows

-- of k columns of n values each, one after another, the values of row i
abbrev pub stacked_row : ℕ → ℕ → List Value → ℕ → List Value
stacked_row n k vs i = map (λ j. get_or vs (j * n + i) null) (range_with_len 0 k)

abbrev pub stacked_rows : ℕ → ℕ → List Value → List Value
stacked_rows n k vs = map (λ i. joined_row (stacked_row n k vs i)) (range_with_len 0 n)

-- the lists of one row joined, and an empty one where one of them is null
abbrev pub filled_row : List Value → Value
filled_row vs = list (values_from (if list_all is_present vs then joined_items vs else []))

abbrev pub filled_rows : ℕ → ℕ → List Value → List Value
filled_rows n k vs = map (λ i. filled_row (stacked_row n k vs i)) (range_with_len 0 n)

-- an array of the values, unless they are too many
abbrev pub stacked_datum : DataType → List Value → Result shown.Datum Fault
stacked_datum t vs = refused_or (too_many (length vs)) (shown.arr t vs)

-- the same, unless the items of its lists are too many
abbrev pub rows_datum : DataType → List Value → Result shown.Datum Fault
rows_datum t rows = refused_or (too_many (length (joined_items rows))) (shown.arr t rows)

-- ---- columns that are joined

-- rows of n values, unless columns are of other lengths or n are too many
abbrev pub rows_refused : ℕ → List (List Value) → Option Fault
rows_refused n vss = (if are_long n vss then None else Some Lengths) or too_many n

abbrev pub joined_datum : Axis → DataType → List (List Value) → Result shown.Datum Fault
joined_datum axis t vss = refused_or (values_fault axis vss) (shown.arr t (joined_values axis vss))

-- ---- lists by their places

-- which list a value is: the one of its place, or by the index of an option
abbrev pub list_place : Option Column → ℕ → Option ℕ
list_place None j = Some j
list_place (Some index) j = option_place_at index j

-- an index of at least j + 1 values, and of m values
abbrev pub IndexHas : Option Column → ℕ → Type 0
IndexHas None j = Unit {0}
IndexHas (Some index) j = IsOptionKind index.kind × (j < size_of index)

abbrev pub IndexesAll : Option Column → ℕ → Type 0
IndexesAll None m = Unit {0}
IndexesAll (Some index) m = IsOptionKind index.kind × (size_of index ≡ m)

-- an index of m values over so many lists
abbrev pub IsListIndex : Option Column → ℕ → ℕ → Type 0
IsListIndex None m size = m ≡ size
IsListIndex (Some index) m size = (size_of index ≡ m) × IsOptionalIndex index size

-- m values by their places, or null
abbrev pub values_by : Option Column → ℕ → (ℕ → Value) → List Value
values_by index m f = map (λ j. at_option (list_place index j) f) (range_with_len 0 m)

-- and their type
abbrev pub type_by : Option Column → DataType → DataType
type_by None t = t
type_by (Some index) t = opt t

-- the list from a start below a stop
abbrev pub list_between : Column → Column → Layout → ℕ → Value
list_between s t y p = list (run (array_item y) (place_at s p) (place_at t p - place_at s p))

-- whether row i of k columns of n values has no null
abbrev pub is_whole : Option Column → ℕ → ℕ → ℕ → Bool
is_whole index n k i = list_all (λ j. is_some (list_place index (j * n + i))) (range_with_len 0 k)

abbrev pub row_or_null : Option Column → ℕ → ℕ → ℕ → ℤ
row_or_null index n k i = if is_whole index n k i then pos i else negsuc 0

-- each row without null by its place, and -1 for the others
abbrev pub rows_lane : Option Column → ℕ → ℕ → Column
rows_lane index n k = lane_of I64 n (row_or_null index n k)

-- the end of a list, and 0 where there is none
abbrev pub end_at : Column → Option ℕ → ℤ
end_at ends None = pos 0
end_at ends (Some p) = at ends p

abbrev pub end_of_row : Option Column → ℕ → Column → ℕ → Option ℕ → ℤ
end_of_row index n ends j None = pos 0
end_of_row index n ends j (Some i) = end_at ends (list_place index (j * n + i))

-- the end of list t of all rows
abbrev pub end_in_rows : Option Column → Column → ℕ → Column → ℕ → ℤ
end_in_rows index rows k ends t =
    end_of_row index (size_of rows) ends (t % k) (option_place_at rows (t / k))

-- the ends of the lists of each row, row after row
abbrev pub ends_in_rows : Option Column → Column → ℕ → Column → Column
ends_in_rows index rows k ends =
    lane_of I64 (size_of rows * k) (end_in_rows index rows k ends)

-- each k-th offset
abbrev pub offsets_of_rows : Column → ℕ → ℕ → Column
offsets_of_rows offsets n k = lane_of offsets.kind (n + 1) (λ i. at offsets (i * k))

-- offsets of m lists that fill a list of this length
pub record AreRising (o : Column) (m whole : ℕ) : Type 0 where
  pub kind : IsIndexKind o.kind
  pub size : size_of o ≡ m + 1
  pub numbers : (i : ℕ) → i ≤ m → at o i ≡ pos (place_at o i)
  pub rises : (i : ℕ) → i < m → place_at o i ≤ place_at o (i + 1)
  pub last : place_at o m ≡ whole
