-- How many items of a list are not null.
use Rattle.std.specs.Prelude.{length, pos, map, sum, None}
use Rattle.awk_types.specs.DataType.{leaf}
use Rattle.awk_types.specs.Value.{int}
use Rattle.awk_types.specs.declared.primitive.Primitive.TheVariants.{I64}
use Rattle.awk_columns.specs.Columns.{present_values}
use Rattle.awk_list_functions.specs.ListFunction.{ListFunction, singles}
use Rattle.awk_list_functions.specs.Spoils.{too_many}

-- every list of the operand is counted
abbrev pub count_function : ListFunction
count_function = record {
  refusal = λ t. None;
  giving = singles (λ t. leaf I64) (λ t vs. int (pos (length (present_values vs))));
  spoil = λ t ls. too_many (sum (map length ls));
}
