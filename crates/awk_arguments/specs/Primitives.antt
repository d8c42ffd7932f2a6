-- Leaf types by their names.
use Rattle.std.specs.Prelude.{List, [], ◌∷◌, Option, Some, None, option_and_then, codes}
use Rattle.std.specs.Prelude.{if◌then◌else◌}
use Rattle.awk_types.specs.DataType.{Name}
use Rattle.awk_types.specs.Names.{same_name}
use Rattle.awk_types.specs.declared.primitive.Primitive.{Primitive}
use Rattle.awk_types.specs.declared.primitive.Primitive.TheVariants as primitive
use Rattle.awk_expr.specs.declared.fixed.FixedArg.{FixedArg}
use Rattle.awk_arguments.specs.Fixed.{text_in}

-- each leaf type with its name
abbrev pub primitives : List (Name × Primitive)
primitives =
    (codes "bool", primitive.Bool) ∷ (codes "int8", primitive.I8) ∷ (codes "int16", primitive.I16)
    ∷ (codes "int32", primitive.I32) ∷ (codes "int64", primitive.I64)
    ∷ (codes "uint8", primitive.U8) ∷ (codes "uint16", primitive.U16)
    ∷ (codes "uint32", primitive.U32) ∷ (codes "uint64", primitive.U64) ∷ []

abbrev pub named_among : List (Name × Primitive) → Name → Option Primitive
named_among [] name = None
named_among (p ∷ ps) name = if same_name p.0 name then Some p.1 else named_among ps name

-- the leaf type of a name
abbrev pub primitive_named : Name → Option Primitive
primitive_named name = named_among primitives name

-- the only argument, where it is the name of a leaf type
abbrev pub primitive_in : List FixedArg → Option Primitive
primitive_in fixed = option_and_then primitive_named (text_in fixed)
