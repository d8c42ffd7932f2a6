-- Whether items are null.
use Rattle.std.specs.Prelude.{List, map, ℤ, None, Result}
use Rattle.awk_types.specs.DataType.{leaf}
use Rattle.awk_types.specs.Datum.{Datum}
use Rattle.awk_types.specs.Predicates.{is_null}
use Rattle.awk_types.specs.Value.{Value, truth}
use Rattle.awk_types.specs.declared.fault.Fault.{Fault}
use Rattle.awk_types.specs.declared.primitive.Primitive.TheVariants.{Bool as Truths}
use Rattle.awk_list_functions.specs.Counted.{counted}
use Rattle.awk_list_functions.specs.Lifting.{lift}
use Rattle.awk_list_functions.specs.ListFunction.{ListFunction, lists}

-- a truth value for each item
abbrev pub nulls : List Value → List Value
nulls vs = map (λ v. truth (is_null v)) vs

abbrev pub is_none_function : ListFunction
is_none_function = record {
  refusal = λ t. None;
  giving = lists (λ class. class) (λ t. leaf Truths) (λ t vs. nulls vs);
  spoil = counted (λ t vs. nulls vs);
}

-- whether each item of each list at an axis is null
abbrev pub is_none_of : ℤ → Datum → Result Datum Fault
is_none_of axis d = lift is_none_function axis d
