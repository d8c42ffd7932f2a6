-- Picks row by row: each list of a datum by the list of another at its place, down to the masks and
-- indexes inside.
use Rattle.std.specs.Prelude.{◌==◌, Bool, false, not, ◌||◌, List, [], ◌∷◌, length}
use Rattle.std.specs.Prelude.{Option, Some, None, option_map, Result, Err, if◌then◌else◌}
use Rattle.std.specs.List.{list_any}
use Rattle.awk_types.specs.DataType.{DataType, unknown, leaf, var, reg, rec, tup, opt, uni}
use Rattle.awk_types.specs.Faults.{limit_refused}
use Rattle.awk_types.specs.Value.{Value, null, list, value_list, values_from}
use Rattle.awk_types.specs.Datum.{Datum, arr}
use Rattle.awk_types.specs.Gives.{refused_or, ◌or◌}
use Rattle.awk_types.specs.Simple.{option_if, present, simple}
use Rattle.awk_types.specs.ItemLimit.{too_many}
use Rattle.awk_types.specs.declared.fault.Fault.{Fault}
use Rattle.awk_types.specs.declared.fault.Fault.TheVariants.{WrongType, Lengths, Index}
use Rattle.awk_types.specs.declared.primitive.Primitive.TheVariants.{Bool as Truths}
use Rattle.awk_types.specs.Predicates.{is_list}
use Rattle.awk_columns.specs.Columns.{joined_items}
use Rattle.awk_jagged_rows.specs.RowTypes.{rows_of}
use Rattle.awk_select.specs.Picks.{picked, mask_places, take_places, is_outside}

-- ---- types

-- rows of any length of what is picked in them, optional where the rows are
abbrev pub rows_type : Option (Bool × DataType) → (DataType → Option DataType) → Option DataType
rows_type None inner = None
rows_type (Some (o, t)) inner = option_map (λ r. option_if o (var r)) (inner t)

-- the type of items of a second type that are picked by items of a first one
abbrev pub pick_type : DataType → DataType → Option DataType
pick_type unknown t = Some t
pick_type (leaf p) t = Some t
pick_type (var u) t = rows_type (rows_of t) (pick_type u)
pick_type (reg n u) t = rows_type (rows_of t) (pick_type u)
pick_type (opt u) t = option_map opt (pick_type u t)
pick_type (rec ns us) t = None
pick_type (tup us) t = None
pick_type (uni us) t = None

abbrev pub is_jagged : DataType → Bool
is_jagged u = is_list (present u)

-- ---- values

-- two lists by a function, and null where one of the two is null
abbrev pub row_by : (List Value → List Value → List Value) → Value → Value → Value
row_by f (list vs) (list ws) = list (values_from (f (value_list vs) (value_list ws)))
row_by f v w = null

abbrev pub rows_by : (List Value → List Value → List Value) → List Value → List Value → List Value
rows_by f (v ∷ vs) (w ∷ ws) = row_by f v w ∷ rows_by f vs ws
rows_by f vs ws = []

-- items that are picked by others of a type
abbrev pub picked_items : DataType → List Value → List Value → List Value
picked_items (leaf Truths) vs ws = picked vs (mask_places ws)
picked_items (var u) vs ws = rows_by (picked_items u) vs ws
picked_items (reg n u) vs ws = rows_by (picked_items u) vs ws
picked_items (opt u) vs ws = picked_items u vs ws
picked_items u vs ws = picked vs (take_places (length vs) ws)

-- ---- faults of values

-- whether a test is true of two lists at some place, where neither is null
abbrev pub row_any : (List Value → List Value → Bool) → Value → Value → Bool
row_any f (list vs) (list ws) = f (value_list vs) (value_list ws)
row_any f v w = false

abbrev pub rows_any : (List Value → List Value → Bool) → List Value → List Value → Bool
rows_any f (v ∷ vs) (w ∷ ws) = row_any f v w || rows_any f vs ws
rows_any f vs ws = false

-- some mask, or some list of rows, is not as long as what is picked from
abbrev pub are_uneven : DataType → List Value → List Value → Bool
are_uneven (leaf Truths) vs ws = not (length vs == length ws)
are_uneven (var u) vs ws = not (length vs == length ws) || rows_any (are_uneven u) vs ws
are_uneven (reg n u) vs ws = not (length vs == length ws) || rows_any (are_uneven u) vs ws
are_uneven (opt u) vs ws = are_uneven u vs ws
are_uneven u vs ws = false

-- some index names no place of its row
abbrev pub lacks_places : DataType → List Value → List Value → Bool
lacks_places (leaf Truths) vs ws = false
lacks_places (var u) vs ws = rows_any (lacks_places u) vs ws
lacks_places (reg n u) vs ws = rows_any (lacks_places u) vs ws
lacks_places (opt u) vs ws = lacks_places u vs ws
lacks_places u vs ws = list_any (is_outside (length vs)) ws

-- the lists of what is picked, level by level
abbrev pub size_refused : DataType → List Value → Option Fault
size_refused (var u) rs = too_many (length rs) or size_refused u (joined_items rs)
size_refused (reg n u) rs = too_many (length rs) or size_refused u (joined_items rs)
size_refused (opt u) rs = size_refused u rs
size_refused u rs = too_many (length rs)

abbrev pub fault_if : Fault → Bool → Option Fault
fault_if why b = if b then Some why else None

-- ---- the whole

abbrev pub picked_rows : DataType → DataType → List Value → List Value → Result Datum Fault
picked_rows r u vs ws =
    refused_or
    (limit_refused (simple r)
    or (fault_if Lengths (are_uneven u vs ws)
    or (fault_if Index (lacks_places u vs ws) or size_refused u (picked_items u vs ws))))
    (arr (simple r) (picked_items u vs ws))

abbrev pub picked_as : Option DataType → DataType → List Value → List Value → Result Datum Fault
picked_as None u vs ws = Err WrongType
picked_as (Some r) u vs ws = picked_rows r u vs ws

-- the items of each row of an array by the row of another array at its place
abbrev pub jagged_of : Datum → Datum → Result Datum Fault
jagged_of (arr t vs) (arr u ws) =
    if is_jagged u then picked_as (pick_type u t) u vs ws else Err WrongType
jagged_of x ix = Err WrongType
