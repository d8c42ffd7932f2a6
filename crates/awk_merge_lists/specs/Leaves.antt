-- The values of numbers in lanes.
use Rattle.std.specs.Prelude.{ℤ, Bool, true, false, List, map}
use Rattle.std.specs.List.{AllByRecursion}
use Rattle.awk_types.specs.DataType.{leaf}
use Rattle.awk_types.specs.Has.{Has}
use Rattle.awk_types.specs.Value.{Value}
use Rattle.awk_types.specs.declared.primitive.Primitive.{Primitive}
use Rattle.awk_lanes.specs.Column.{Column}
use Rattle.awk_lanes.specs.Numbers.{element}
use Rattle.awk_lanes.specs.declared.kind.Kind.{Kind}
use Rattle.awk_lanes.specs.declared.kind.Kind.TheVariants.{Bool as Truths, I8, I16, I32, I64, U8}
use Rattle.awk_lanes.specs.declared.kind.Kind.TheVariants.{U16, U32, U64}
use Rattle.awk_layout.specs.Item.{leaf_value}

-- the value that a number of a kind is, as it lies in a lane
abbrev pub lane_value : Kind → ℤ → Value
lane_value k z = leaf_value k (element k z)

-- all values of a lane
abbrev pub leaf_values : Column → List Value
leaf_values c = map (lane_value c.kind) c.items

-- a primitive holds all values of a lane
abbrev pub AreOf : Primitive → Column → Type 0
AreOf p c = AllByRecursion (Has (leaf p)) (leaf_values c)

abbrev pub is_unsigned : Kind → Bool
is_unsigned Truths = false
is_unsigned I8 = false
is_unsigned I16 = false
is_unsigned I32 = false
is_unsigned I64 = false
is_unsigned U8 = true
is_unsigned U16 = true
is_unsigned U32 = true
is_unsigned U64 = true
