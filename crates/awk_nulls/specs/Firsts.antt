-- The first item of a list.
use Rattle.std.specs.Prelude.{List, [], ◌∷◌, ℤ, None, Result}
use Rattle.awk_types.specs.DataType.{opt}
use Rattle.awk_types.specs.Datum.{Datum}
use Rattle.awk_types.specs.Value.{Value, null}
use Rattle.awk_types.specs.declared.fault.Fault.{Fault}
use Rattle.awk_list_functions.specs.Lifting.{lift}
use Rattle.awk_list_functions.specs.ListFunction.{ListFunction, singles}

abbrev pub first_or_null : List Value → Value
first_or_null [] = null
first_or_null (v ∷ vs) = v

abbrev pub firsts_function : ListFunction
firsts_function = record {
  refusal = λ t. None;
  giving = singles (λ t. opt t) (λ t vs. first_or_null vs);
  spoil = λ t ls. None;
}

-- the first item of each list at an axis, and null for a list without items
abbrev pub firsts_of : ℤ → Datum → Result Datum Fault
firsts_of axis d = lift firsts_function axis d
