-- Each item as a list of at most one.
use Rattle.std.specs.Prelude.{map, ℤ, None, Result}
use Rattle.awk_types.specs.DataType.{var}
use Rattle.awk_types.specs.Datum.{Datum}
use Rattle.awk_types.specs.Simple.{present}
use Rattle.awk_types.specs.Value.{Value, null, list, no_values, value}
use Rattle.awk_types.specs.declared.fault.Fault.{Fault}
use Rattle.awk_list_functions.specs.Counted.{counted}
use Rattle.awk_list_functions.specs.Lifting.{lift}
use Rattle.awk_list_functions.specs.ListFunction.{ListFunction, lists}

-- null as an empty list, and any other value as a list of itself
abbrev pub single_list : Value → Value
single_list null = list no_values
single_list v = list (value v no_values)

abbrev pub singletons_function : ListFunction
singletons_function = record {
  refusal = λ t. None;
  giving = lists (λ class. class) (λ t. var (present t)) (λ t vs. map single_list vs);
  spoil = counted (λ t vs. map single_list vs);
}

-- a list of at most one for each item of each list at an axis
abbrev pub singletons_of : ℤ → Datum → Result Datum Fault
singletons_of axis d = lift singletons_function axis d
