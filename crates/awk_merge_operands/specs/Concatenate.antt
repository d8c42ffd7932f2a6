-- Arrays joined one after another, or list by list within their rows.
use Rattle.std.specs.Prelude.{◌==◌, ◌∷◌, [], ℕ, ℤ, pos, negsuc, Bool, if◌then◌else◌, List, length}
use Rattle.std.specs.Prelude.{map, get_or, Option, Some, None, option_map, Result, Err}
use Rattle.std.specs.List.{flat_map, list_all, range_with_len}
use Rattle.awk_types.specs.DataType.{DataType, unknown, var, reg, opt}
use Rattle.awk_types.specs.Datum.{Datum, arr, one}
use Rattle.awk_types.specs.Faults.{limit_fault}
use Rattle.awk_types.specs.Gives.{refused_or, ◌or◌}
use Rattle.awk_types.specs.ItemLimit.{too_many}
use Rattle.awk_types.specs.Limit.{limit}
use Rattle.awk_types.specs.Value.{Value, null, list, values_from}
use Rattle.awk_types.specs.declared.fault.Fault.{Fault}
use Rattle.awk_types.specs.declared.fault.Fault.TheVariants as fault
use Rattle.awk_columns.specs.Columns.{is_present, joined_items}
use Rattle.awk_unify.specs.Carry.{Carry, carried}
use Rattle.awk_unify.specs.FieldNames.{with_type}
use Rattle.awk_unify.specs.UnifyList.{UnificationList, unification_list}
use Rattle.awk_merge_operands.specs.declared.operands.Axis.{Axis}
use Rattle.awk_merge_operands.specs.declared.operands.Axis.TheVariants.{Arrays, Rows}

-- ---- types

-- the lists of any length that items of a type are; unknown counts as lists of unknown
abbrev pub lists_type : DataType → Option DataType
lists_type unknown = Some (var unknown)
lists_type (var t) = Some (var t)
lists_type (reg n t) = Some (var t)
lists_type t = None

-- the same, where they may be optional
abbrev pub rows_type : DataType → Option DataType
rows_type (opt t) = option_map opt (lists_type t)
rows_type t = lists_type t

-- what the items of an operand are joined as; a single value has none
abbrev pub operand_type : Axis → Datum → Option DataType
operand_type axis (one t v) = None
operand_type Arrays (arr t vs) = Some t
operand_type Rows (arr t vs) = rows_type t

abbrev pub operand_types : Axis → List Datum → Option (List DataType)
operand_types axis [] = Some []
operand_types axis (d ∷ ds) = with_type (operand_type axis d) (operand_types axis ds)

-- ---- values

abbrev pub operand_items : Datum → List Value
operand_items (arr t vs) = vs
operand_items (one t v) = v ∷ []

-- the values of each operand, carried
abbrev pub carried_columns : List Carry → List (List Value) → List (List Value)
carried_columns (f ∷ fs) (vs ∷ vss) = map (carried f) vs ∷ carried_columns fs vss
carried_columns fs vss = []

-- one after another
abbrev pub stacked : List (List Value) → List Value
stacked vss = flat_map (λ vs. vs) vss

-- the lists of one row joined, and null where one of them is
abbrev pub joined_row : List Value → Value
joined_row vs = if list_all is_present vs then list (values_from (joined_items vs)) else null

-- what stands at a place in each column
abbrev pub row_of : List (List Value) → ℕ → List Value
row_of vss i = map (λ vs. get_or vs i null) vss

-- how many rows the first column has
abbrev pub row_count : List (List Value) → ℕ
row_count [] = 0
row_count (vs ∷ vss) = length vs

abbrev pub joined_rows : List (List Value) → List Value
joined_rows vss = map (λ i. joined_row (row_of vss i)) (range_with_len 0 (row_count vss))

abbrev pub joined_values : Axis → List (List Value) → List Value
joined_values Arrays vss = stacked vss
joined_values Rows vss = joined_rows vss

-- ---- faults of values

abbrev pub are_long : ℕ → List (List Value) → Bool
are_long n vss = list_all (λ vs. length vs == n) vss

-- rows need columns of one length
abbrev pub lengths_fault : List (List Value) → Option Fault
lengths_fault vss = if are_long (row_count vss) vss then None else Some fault.Lengths

-- the items that are joined, and of rows those of all their lists, are not too many
abbrev pub values_fault : Axis → List (List Value) → Option Fault
values_fault Arrays vss = too_many (length (stacked vss))
values_fault Rows vss =
    lengths_fault vss or too_many (row_count vss)
    or too_many (length (joined_items (joined_rows vss)))

-- ---- the whole

abbrev pub joined : Axis → UnificationList → List (List Value) → Result Datum Fault
joined axis u vss =
    let columns = carried_columns u.lifts vss in
    refused_or (option_map limit_fault (limit u.typ) or values_fault axis columns)
    (arr u.typ (joined_values axis columns))

abbrev pub joined_as : Axis → Option (List DataType) → List (List Value) → Result Datum Fault
joined_as axis None vss = Err fault.Axis
joined_as axis (Some ts) vss = joined axis (unification_list ts) vss

abbrev pub axis_of : ℤ → Option Axis
axis_of (pos n) = if n == 0 then Some Arrays else if n == 1 then Some Rows else None
axis_of (negsuc n) = None

abbrev pub concatenate_at : Option Axis → List Datum → Result Datum Fault
concatenate_at None ds = Err fault.Axis
concatenate_at (Some axis) ds = joined_as axis (operand_types axis ds) (map operand_items ds)

-- arrays joined at an axis: their items one after another, or the lists of each row
abbrev pub concatenate_of : ℤ → List Datum → Result Datum Fault
concatenate_of z ds = concatenate_at (axis_of z) ds
