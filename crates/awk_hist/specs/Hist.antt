-- A histogram of all leaves of a datum.
use Rattle.std.specs.Prelude.{ℤ, Bool, true, false, List, [], ◌∷◌, length}
use Rattle.std.specs.Prelude.{Option, Some, None, Result, if◌then◌else◌}
use Rattle.std.specs.List.{flat_map}
use Rattle.awk_types.specs.DataType.{DataType, unknown, leaf, var, reg, rec, tup, opt, uni}
use Rattle.awk_types.specs.Datum.{Datum, arr, one}
use Rattle.awk_types.specs.Gives.{refused_or, ◌or◌}
use Rattle.awk_types.specs.ItemLimit.{too_many}
use Rattle.awk_types.specs.Predicates.{is_leaf}
use Rattle.awk_types.specs.Simple.{present}
use Rattle.awk_types.specs.Value.{Value, null}
use Rattle.awk_types.specs.WholeNumbers.{is_numbers}
use Rattle.awk_types.specs.declared.fault.Fault.{Fault}
use Rattle.awk_types.specs.declared.fault.Fault.TheVariants.{Axis, WrongType}
use Rattle.awk_columns.specs.Columns.{list_items, joined_items, present_values}
use Rattle.awk_hist.specs.Bins.{bins, bins_type}

-- the values at the leaves of a value, in order. A null list counts as one null.
abbrev pub leaves : DataType → Value → List Value
leaves unknown v = v ∷ []
leaves (leaf p) v = v ∷ []
leaves (var t) v = flat_map (leaves t) (list_items v)
leaves (reg n t) v = flat_map (leaves t) (list_items v)
leaves (rec ns ts) v = v ∷ []
leaves (tup ts) v = v ∷ []
leaves (opt t) null = null ∷ []
leaves (opt t) v = leaves t v
leaves (uni ts) v = v ∷ []

-- numbers or unknown below lists and options alone
abbrev pub has_numbers : DataType → Bool
has_numbers unknown = true
has_numbers (leaf p) = is_numbers (leaf p)
has_numbers (var t) = has_numbers t
has_numbers (reg n t) = has_numbers t
has_numbers (rec ns ts) = false
has_numbers (tup ts) = false
has_numbers (opt t) = has_numbers t
has_numbers (uni ts) = false

abbrev pub type_refused : DataType → Option Fault
type_refused t = if has_numbers t then None else Some WrongType

-- a single leaf has no lists
abbrev pub axis_refused : DataType → Option Fault
axis_refused t = if is_leaf (present t) then Some Axis else None

-- some column of lists has too many items
abbrev pub lists_refused : DataType → List Value → Option Fault
lists_refused unknown vs = None
lists_refused (leaf p) vs = None
lists_refused (var t) vs =
    too_many (length (joined_items vs)) or lists_refused t (joined_items vs)
lists_refused (reg n t) vs =
    too_many (length (joined_items vs)) or lists_refused t (joined_items vs)
lists_refused (rec ns ts) vs = None
lists_refused (tup ts) vs = None
lists_refused (opt t) vs = lists_refused t (present_values vs)
lists_refused (uni ts) vs = None

-- all leaves in order
abbrev pub leaves_of : Datum → List Value
leaves_of (arr t vs) = flat_map (leaves t) vs
leaves_of (one t v) = leaves t v

abbrev pub hist_refused : Datum → Option Fault
hist_refused (arr t vs) = type_refused t or too_many (length vs) or lists_refused t vs
hist_refused (one t v) = axis_refused t or type_refused t or lists_refused t (v ∷ [])

-- the histogram of all leaves
abbrev pub hist_of : List ℤ → Datum → Result Datum Fault
hist_of es d = refused_or (hist_refused d) (one bins_type (bins es (leaves_of d)))

-- the same of the values of a column whose type and number of items are not refused
abbrev pub hist_of_array : List ℤ → DataType → List Value → Result Datum Fault
hist_of_array es t vs =
    refused_or (lists_refused t vs) (one bins_type (bins es (flat_map (leaves t) vs)))
