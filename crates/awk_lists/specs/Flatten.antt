-- The lists of a list joined to one list.
use Rattle.std.specs.Prelude.{suc, ℤ, pos, Some, None, Result, Err, if◌then◌else◌}
use Rattle.awk_types.specs.Datum.{Datum}
use Rattle.awk_types.specs.Parts.{item_of}
use Rattle.awk_types.specs.Simple.{present}
use Rattle.awk_types.specs.declared.fault.Fault.{Fault}
use Rattle.awk_types.specs.declared.fault.Fault.TheVariants.{Axis}
use Rattle.awk_types.specs.Predicates.{is_list_or_unknown}
use Rattle.awk_columns.specs.Columns.{joined_items}
use Rattle.awk_list_functions.specs.Counted.{counted}
use Rattle.awk_list_functions.specs.Lifting.{lift}
use Rattle.awk_list_functions.specs.ListFunction.{ListFunction, lists}
use Rattle.awk_list_functions.specs.declared.causes.Refusal.TheVariants as refused

-- the items of all lists of a list, one after another. A null list has none.
abbrev pub flatten_function : ListFunction
flatten_function = record {
  refusal = λ t. if is_list_or_unknown (present t) then None else Some refused.Axis;
  giving = lists (λ class. None) (λ t. item_of (present t)) (λ t vs. joined_items vs);
  spoil = counted (λ t vs. joined_items vs);
}

-- the lists at an axis joined within each list of the axis before
abbrev pub flatten_of : ℤ → Datum → Result Datum Fault
flatten_of (pos (suc a)) d = lift flatten_function (pos a) d
flatten_of axis d = Err Axis
