-- An array cut into lists of given lengths.
use Rattle.std.specs.Prelude.{ℕ, ◌==◌, negsuc, Bool, true, false, ◌||◌, not}
use Rattle.std.specs.Prelude.{List, [], ◌∷◌, length, map, sum_by, take, drop, Option, Some, None}
use Rattle.std.specs.Prelude.{option_map, Result, Err, if◌then◌else◌}
use Rattle.std.specs.List.{list_any}
use Rattle.awk_types.specs.DataType.{DataType, var}
use Rattle.awk_types.specs.Datum.{Datum, arr}
use Rattle.awk_types.specs.Faults.{limit_fault}
use Rattle.awk_types.specs.Gives.{refused_or, ◌or◌}
use Rattle.awk_types.specs.Limit.{limit}
use Rattle.awk_types.specs.Value.{Value, int, list, values_from}
use Rattle.awk_types.specs.WholeNumbers.{is_numbers}
use Rattle.awk_types.specs.ItemLimit.{too_many}
use Rattle.awk_types.specs.declared.fault.Fault.{Fault}
use Rattle.awk_types.specs.declared.fault.Fault.TheVariants.{WrongType, Lengths}
use Rattle.awk_layout.specs.Shown.{count_of}

abbrev pub is_negative : Value → Bool
is_negative (int (negsuc n)) = true
is_negative v = false

-- how many items the first i counts are together
abbrev pub counted_before : List Value → ℕ → ℕ
counted_before cs i = sum_by count_of (take i cs)

abbrev pub type_refused : DataType → Option Fault
type_refused u = if is_numbers u then None else Some WrongType

abbrev pub limit_refused : DataType → Option Fault
limit_refused t = option_map limit_fault (limit (var t))

-- some count is negative, or all together are not n
abbrev pub do_not_add_up : ℕ → List Value → Bool
do_not_add_up n cs = list_any is_negative cs || not (sum_by count_of cs == n)

abbrev pub lengths_refused : ℕ → List Value → Option Fault
lengths_refused n cs = if do_not_add_up n cs then Some Lengths else None

-- the first items as a list, and so on
abbrev pub cut_by : List ℕ → List Value → List Value
cut_by [] vs = []
cut_by (n ∷ ns) vs = list (values_from (take n vs)) ∷ cut_by ns (drop n vs)

-- items of type t in lists, as many in each as the counts say
abbrev pub lists_by : DataType → List Value → List Value → Datum
lists_by t vs cs = arr (var t) (cut_by (map count_of cs) vs)

-- the same, where the types are judged
abbrev pub cut_items : DataType → List Value → List Value → Result Datum Fault
cut_items t vs cs =
    refused_or (lengths_refused (length vs) cs or too_many (length cs)) (lists_by t vs cs)

-- why items are not cut by counts of type u
abbrev pub cut_refused : DataType → List Value → DataType → List Value → Option Fault
cut_refused t vs u cs =
    type_refused u
    or (limit_refused t or (lengths_refused (length vs) cs or too_many (length cs)))

abbrev pub cut : DataType → List Value → DataType → List Value → Result Datum Fault
cut t vs u cs = refused_or (cut_refused t vs u cs) (lists_by t vs cs)

-- the items of an array in lists, as many in each as the counts say
abbrev pub unflatten_of : Datum → Datum → Result Datum Fault
unflatten_of (arr t vs) (arr u cs) = cut t vs u cs
unflatten_of x counts = Err WrongType
