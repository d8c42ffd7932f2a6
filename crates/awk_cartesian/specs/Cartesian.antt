-- Tuples of one item of each of several lists.
use Rattle.std.specs.Prelude.{ℤ, Bool, false, if◌then◌else◌, List, [], ◌∷◌, length, map}
use Rattle.std.specs.Prelude.{Option, Some, None, Result, Err, option_map}
use Rattle.std.specs.List.{range_with_len, list_all, list_any}
use Rattle.awk_types.specs.DataType.{DataType, var, opt}
use Rattle.awk_types.specs.Datum.{Datum, arr, one}
use Rattle.awk_types.specs.Faults.{limit_fault}
use Rattle.awk_types.specs.Gives.{refused_or, ◌or◌}
use Rattle.awk_types.specs.ItemLimit.{too_many}
use Rattle.awk_types.specs.Limit.{limit}
use Rattle.awk_types.specs.Parts.{list_item}
use Rattle.awk_types.specs.Simple.{is_option, option_if}
use Rattle.awk_types.specs.Value.{Value, null, list, values_from}
use Rattle.awk_types.specs.declared.fault.Fault.{Fault}
use Rattle.awk_types.specs.declared.fault.Fault.TheVariants as fault
use Rattle.awk_columns.specs.Columns.{is_present, list_items, joined_items}
use Rattle.awk_products.specs.Tuples.{tuple_type, tuples_of}
use Rattle.awk_unify.specs.FieldNames.{with_type}
use Rattle.awk_merge_operands.specs.Concatenate.{axis_of, operand_items}
use Rattle.awk_merge_operands.specs.Concatenate.{row_of, row_count, lengths_fault}
use Rattle.awk_merge_operands.specs.declared.operands.Axis.{Axis}
use Rattle.awk_merge_operands.specs.declared.operands.Axis.TheVariants.{Arrays, Rows}

-- ---- types

-- the same of lists that may be null
abbrev pub rows_item : DataType → Option DataType
rows_item (opt t) = list_item t
rows_item t = list_item t

-- what an operand's lists are of: an array's items as one list, or each of them as a list; a
-- single value has none
abbrev pub operand_item : Axis → Datum → Option DataType
operand_item axis (one t v) = None
operand_item Arrays (arr t vs) = Some t
operand_item Rows (arr t vs) = rows_item t

-- of all operands, or none where one has none
abbrev pub item_types : Axis → List Datum → Option (List DataType)
item_types axis [] = Some []
item_types axis (d ∷ ds) = with_type (operand_item axis d) (item_types axis ds)

-- whether an operand's rows may be null
abbrev pub has_null_rows : Datum → Bool
has_null_rows (arr t vs) = is_option t
has_null_rows (one t v) = false

-- the type of what is made: tuples, or in each row lists of them, which are null where a row is
abbrev pub product_type : Axis → Bool → List Datum → List DataType → DataType
product_type Arrays places ds ts = tuple_type places ts
product_type Rows places ds ts = option_if (list_any has_null_rows ds) (var (tuple_type places ts))

-- ---- values

-- those of the lists of one row, and null where one of them is
abbrev pub row_tuples : Bool → List Value → Value
row_tuples places vs =
    if list_all is_present vs then list (values_from (tuples_of places (map list_items vs)))
    else null

abbrev pub rows_tuples : Bool → List (List Value) → List Value
rows_tuples places vss =
    map (λ i. row_tuples places (row_of vss i)) (range_with_len 0 (row_count vss))

abbrev pub product_values : Axis → Bool → List (List Value) → List Value
product_values Arrays places vss = tuples_of places vss
product_values Rows places vss = rows_tuples places vss

-- ---- the whole

-- rows need arrays of one length, and of tuples and rows there are not too many
abbrev pub product_fault : Axis → Bool → List (List Value) → Option Fault
product_fault Arrays places vss = too_many (length (tuples_of places vss))
product_fault Rows places vss =
    lengths_fault vss or too_many (row_count vss)
    or too_many (length (joined_items (rows_tuples places vss)))

abbrev pub product : Axis → Bool → DataType → List (List Value) → Result Datum Fault
product axis places t vss =
    refused_or (option_map limit_fault (limit t) or product_fault axis places vss)
    (arr t (product_values axis places vss))

abbrev pub product_by : Axis → Bool → List Datum → Option (List DataType) → Result Datum Fault
product_by axis places ds None = Err fault.Axis
product_by axis places ds (Some ts) =
    product axis places (product_type axis places ds ts) (map operand_items ds)

abbrev pub cartesian_at : Option Axis → Bool → List Datum → Result Datum Fault
cartesian_at None places ds = Err fault.Axis
cartesian_at (Some axis) places ds = product_by axis places ds (item_types axis ds)

-- the tuples of one item of each array, or in each row of one item of each list
abbrev pub cartesian_of : ℤ → Bool → List Datum → Result Datum Fault
cartesian_of z places ds = cartesian_at (axis_of z) places ds
