-- The laws of simplifying, as facts on a type and on the type that it simplifies to.
use Rattle.std.specs.Prelude.{◌≡◌, ◌≤◌}
use Rattle.awk_types.specs.DataType.{DataType, unknown, leaf, var, reg, rec, tup, opt, uni}
use Rattle.awk_types.specs.DataType.{types_from, nodes}
use Rattle.awk_types.specs.Value.{Value}
use Rattle.awk_types.specs.IsType.{IsType}
use Rattle.awk_types.specs.Has.{Has}
use Rattle.awk_types.specs.Simple.{IsSimple, simple, simples, simple_value, simple_values, in_list}
use Rattle.awk_types.specs.Simple.{in_row, in_option, in_alternative}

-- the type over its parts simplified, and a value with its parts carried into them
abbrev pub over_simple_parts : DataType → DataType
over_simple_parts unknown = unknown
over_simple_parts (leaf p) = leaf p
over_simple_parts (var t) = var (simple t)
over_simple_parts (reg n t) = reg n (simple t)
over_simple_parts (rec ns ts) = rec ns (types_from (simples ts))
over_simple_parts (tup ts) = tup (types_from (simples ts))
over_simple_parts (opt t) = opt (simple t)
over_simple_parts (uni ts) = uni (types_from (simples ts))

abbrev pub value_over_simple_parts : DataType → Value → Value
value_over_simple_parts unknown v = v
value_over_simple_parts (leaf p) v = v
value_over_simple_parts (var t) v = in_list (simple_value t) v
value_over_simple_parts (reg n t) v = in_list (simple_value t) v
value_over_simple_parts (rec ns ts) v = in_row (simple_values ts) v
value_over_simple_parts (tup ts) v = in_row (simple_values ts) v
value_over_simple_parts (opt t) v = in_option (simple_value t) v
value_over_simple_parts (uni ts) v = in_alternative (simple_values ts) v

pub record Simplifies (whole made : DataType) : Type 0 where
  -- what is made is simple, a type, and of no more nodes
  pub is_simple : IsSimple made
  pub is_type : IsType whole → IsType made
  pub nodes_within : nodes made ≤ nodes whole
  -- a simple type stays as it is, simplifying twice is once, and simplifying the parts first
  -- changes nothing
  pub stays : IsSimple whole → made ≡ whole
  pub twice : simple made ≡ made
  pub parts_first : simple (over_simple_parts whole) ≡ made
  -- a value of the type, simplified, is one of what is made
  pub values : (v : Value) → Has whole v → Has made (simple_value whole v)
  -- values of a simple type stay as they are
  pub values_stay : IsSimple whole → (v : Value) → Has whole v → simple_value whole v ≡ v
  pub values_twice : (v : Value) → Has made v → simple_value made v ≡ v
  pub values_parts_first : (v : Value) → Has whole v
      → simple_value (over_simple_parts whole) (value_over_simple_parts whole v)
      ≡ simple_value whole v
