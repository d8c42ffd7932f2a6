-- The items of a list that are not null.
use Rattle.std.specs.Prelude.{None}
use Rattle.awk_types.specs.Simple.{present}
use Rattle.awk_columns.specs.Columns.{present_values}
use Rattle.awk_list_functions.specs.ListFunction.{ListFunction, lists}
use Rattle.awk_list_functions.specs.Counted.{counted}

abbrev pub drop_none_function : ListFunction
drop_none_function = record {
  refusal = λ t. None;
  giving = lists (λ class. None) present (λ t vs. present_values vs);
  spoil = counted (λ t vs. present_values vs);
}
