-- Each innermost list reduced to one value.
use Rattle.std.specs.Prelude.{nat_lt, Bool, false, not, List, length, map, sum}
use Rattle.std.specs.Prelude.{Option, Some, None, Result, if◌then◌else◌}
use Rattle.std.specs.List.{list_any}
use Rattle.awk_types.specs.DataType.{DataType}
use Rattle.awk_types.specs.Datum.{Datum}
use Rattle.awk_types.specs.ItemLimit.{item_limit}
use Rattle.awk_types.specs.Simple.{present}
use Rattle.awk_types.specs.Value.{Value}
use Rattle.awk_types.specs.declared.fault.Fault.{Fault}
use Rattle.awk_kernels.specs.Kernels.{total}
use Rattle.awk_list_functions.specs.Lifting.{deep}
use Rattle.awk_list_functions.specs.ListFunction.{ListFunction, singles}
use Rattle.awk_types.specs.Predicates.{is_leaf}
use Rattle.awk_list_functions.specs.declared.causes.Refusal.TheVariants as refused
use Rattle.awk_list_functions.specs.declared.causes.Spoil.{Spoil}
use Rattle.awk_list_functions.specs.declared.causes.Spoil.TheVariants.{Size, Overflow}
use Rattle.awk_numbers.specs.Folds.{product}
use Rattle.awk_primitives.specs.Fits.{fits}
use Rattle.awk_present.specs.Numbers.{leaf_of, numbers}
use Rattle.awk_reduce.specs.declared.reducer.Reducer.{Reducer}
use Rattle.awk_reduce.specs.declared.reducer.Reducer.TheVariants.{Sum, Prod}
use Rattle.awk_reduce.specs.Reducers.{wide, reduced_type, reduced}

-- whether the exact result of a list does not fit its type
abbrev pub overflows : Reducer → DataType → List Value → Bool
overflows Sum t vs = not (fits (wide (leaf_of t)) (total (numbers vs)))
overflows Prod t vs = not (fits (wide (leaf_of t)) (product (numbers vs)))
overflows how t vs = false

abbrev pub overflow_spoil : Reducer → DataType → List (List Value) → Option Spoil
overflow_spoil how t ls = if list_any (overflows how t) ls then Some Overflow else None

-- every list of the operand is counted, and then each result is judged
abbrev pub reduced_spoil : Reducer → DataType → List (List Value) → Option Spoil
reduced_spoil how t ls =
    if nat_lt item_limit (sum (map length ls)) then Some Size else overflow_spoil how t ls

abbrev pub reducer_function : Reducer → ListFunction
reducer_function how = record {
  refusal = λ t. if is_leaf (present t) then None else Some refused.WrongType;
  giving = singles (reduced_type how) (reduced how);
  spoil = reduced_spoil how;
}

-- each innermost list, reduced
abbrev pub reduce_of : Reducer → Datum → Result Datum Fault
reduce_of how d = deep (reducer_function how) d
