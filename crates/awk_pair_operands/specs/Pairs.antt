-- Data paired level by level: a type part, a value part, and the first fault.
use Rattle.std.specs.Prelude.{ℕ, ◌-◌, Bool, true, false, ◌||◌, not, List, [], ◌∷◌, map}
use Rattle.std.specs.Prelude.{get_or, Option, Some, None, Result, if◌then◌else◌}
use Rattle.std.specs.List.{list_any}
use Rattle.awk_types.specs.DataType.{DataType}
use Rattle.awk_types.specs.Datum.{Datum, arr, one, datum_type}
use Rattle.awk_types.specs.Gives.{refused_or, ◌or◌}
use Rattle.awk_frames.specs.Sizes.{sizes_refused}
use Rattle.awk_types.specs.Value.{Value, null}
use Rattle.awk_types.specs.declared.fault.Fault.{Fault}
use Rattle.awk_types.specs.declared.fault.Fault.TheVariants.{WrongType, Lengths}
use Rattle.awk_pair_sides.specs.Sides.{Side, each, always, rows_of, equally_long}
use Rattle.awk_pair_operands.specs.Paired.{Reach, to_leaves, to_depth, is_wrong, paired_type}
use Rattle.awk_pair_operands.specs.Paired.{types_at_ends, all_levels, values_of_rows, any_uneven}

-- ---- the first level, of the arrays

abbrev pub is_array : Datum → Bool
is_array (arr t vs) = true
is_array (one t v) = false

-- an array gives its items, and a single value stands at every place
abbrev pub datum_side : Datum → Side
datum_side (arr t vs) = each vs
datum_side (one t v) = always v

abbrev pub single_value : Datum → Value
single_value (arr t vs) = null
single_value (one t v) = v

abbrev pub typs : List Datum → List DataType
typs xs = map datum_type xs

abbrev pub some_array : List Datum → Bool
some_array xs = list_any is_array xs

-- the rows that are paired: one for each item of the arrays, or one of single values
abbrev pub first_rows : List Datum → List (List Value)
first_rows xs =
    if some_array xs then rows_of (map datum_side xs) else map single_value xs ∷ []

-- ---- how far

abbrev pub reach : Option ℕ → Reach
reach None = to_leaves
reach (Some d) = to_depth

-- the levels below the first rows: the arrays are a level themselves
abbrev pub below : Option ℕ → List Datum → ℕ
below None xs = all_levels (typs xs)
below (Some d) xs = if some_array xs then d - 1 else d

-- ---- what is paired, where no list of the first operand is stretched, or any may be

abbrev pub pair_type : Bool → Option ℕ → List Datum → DataType
pair_type keep d xs = paired_type keep (reach d) (below d xs) (typs xs)

abbrev pub pair_values : Bool → Option ℕ → List Datum → List Value
pair_values keep d xs = values_of_rows keep (reach d) (below d xs) (typs xs) (first_rows xs)

-- the types of the operands' items at the ends
abbrev pub leaf_types : Option ℕ → List Datum → List DataType
leaf_types d xs = types_at_ends (reach d) (below d xs) (typs xs)

-- ---- faults

-- whether leaves are asked for and an item at an end is none
abbrev pub has_wrong_end : Option ℕ → List Datum → Bool
has_wrong_end d xs = is_wrong (reach d) (below d xs) (typs xs)

abbrev pub type_refused : Option ℕ → List Datum → Option Fault
type_refused d xs = if has_wrong_end d xs then Some WrongType else None

abbrev pub are_uneven : Bool → Option ℕ → List Datum → Bool
are_uneven keep d xs =
    not (equally_long (map datum_side xs)) || any_uneven keep (below d xs) (typs xs) (first_rows xs)

abbrev pub lengths_refused : Bool → Option ℕ → List Datum → Option Fault
lengths_refused keep d xs = if are_uneven keep d xs then Some Lengths else None

-- why data are not paired
abbrev pub pair_refused : Bool → Option ℕ → List Datum → Option Fault
pair_refused keep d xs =
    type_refused d xs
    or (lengths_refused keep d xs
    or sizes_refused (pair_type keep d xs) (pair_values keep d xs))

-- the array, or the one value
abbrev pub datum_from : Bool → DataType → List Value → Datum
datum_from true t vs = arr t vs
datum_from false t vs = one t (get_or vs 0 null)

-- the data with a row of their items at each end of what they share
abbrev pub pair_of : Bool → Option ℕ → List Datum → Result Datum Fault
pair_of keep d xs =
    refused_or (pair_refused keep d xs)
    (datum_from (some_array xs) (pair_type keep d xs) (pair_values keep d xs))
