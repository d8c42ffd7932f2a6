-- Arrays of one number, and what a literal is by itself.
use Rattle.std.specs.Prelude.{◌∷◌, [], ℤ, pos, int_le, if◌then◌else◌}
use Rattle.awk_types.specs.DataType.{leaf}
use Rattle.awk_types.specs.Datum as shown
use Rattle.awk_types.specs.Value.{int}
use Rattle.awk_types.specs.declared.primitive.Primitive.{Primitive}
use Rattle.awk_types.specs.declared.primitive.Primitive.TheVariants as primitive
use Rattle.awk_lanes.specs.declared.kind.Kind.{Kind}
use Rattle.awk_layout.specs.Datum.{datum_of}
use Rattle.awk_layout.specs.Kinds.{kind_of}
use Rattle.awk_layout.specs.Layout.{Layout, flat}
use Rattle.awk_layout.specs.declared.datum.Operand.{Operand}
use Rattle.awk_layout.specs.declared.datum.Operand.TheVariants.{Of, Literal}

-- the array of one number of a kind
abbrev pub only : Kind → ℤ → Layout
only kind z = flat (record { kind = kind; items = z ∷ [] })

-- a literal by itself is of int64 where it fits, else of uint64
abbrev pub own_primitive : ℤ → Primitive
own_primitive z = if int_le z (pos 9223372036854775807) then primitive.I64 else primitive.U64

-- the array of a literal by itself
abbrev pub literal_array : ℤ → Layout
literal_array z = only (kind_of (own_primitive z)) z

-- an operand where nothing beside it says a type: a literal is a single value of its own
abbrev pub own_datum : Operand → shown.Datum
own_datum (Of x) = datum_of x
own_datum (Literal z) = shown.one (leaf (own_primitive z)) (int z)
