-- Tests of types and of values. Which types are optional, and which are unions, stands with the
-- simple types.
use Rattle.std.specs.Prelude.{Bool, true, false}
use Rattle.awk_types.specs.DataType.{DataType, unknown, leaf, var, reg}
use Rattle.awk_types.specs.Value.{Value, null}

abbrev pub is_unknown : DataType → Bool
is_unknown unknown = true
is_unknown t = false

-- a type whose values are single numbers or truth values, or that has none
abbrev pub is_leaf : DataType → Bool
is_leaf unknown = true
is_leaf (leaf p) = true
is_leaf t = false

abbrev pub is_list : DataType → Bool
is_list (var t) = true
is_list (reg n t) = true
is_list t = false

-- lists that are all of one length
abbrev pub is_sized : DataType → Bool
is_sized (reg n t) = true
is_sized t = false

-- unknown counts as lists
abbrev pub is_list_or_unknown : DataType → Bool
is_list_or_unknown unknown = true
is_list_or_unknown (var t) = true
is_list_or_unknown (reg n t) = true
is_list_or_unknown t = false

abbrev pub is_null : Value → Bool
is_null null = true
is_null v = false
