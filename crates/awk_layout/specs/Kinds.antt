-- Kinds of numbers and the primitives of types: the same nine.
use Rattle.std.specs.Prelude.{◌≡◌, refl}
use Rattle.awk_types.specs.declared.primitive.Primitive.{Primitive}
use Rattle.awk_types.specs.declared.primitive.Primitive.TheVariants as primitive
use Rattle.awk_lanes.specs.declared.kind.Kind.{Kind}
use Rattle.awk_lanes.specs.declared.kind.Kind.TheVariants as kind

-- the primitive that numbers of a kind are of
abbrev pub primitive_of : Kind → Primitive
primitive_of kind.Bool = primitive.Bool
primitive_of kind.I8 = primitive.I8
primitive_of kind.I16 = primitive.I16
primitive_of kind.I32 = primitive.I32
primitive_of kind.I64 = primitive.I64
primitive_of kind.U8 = primitive.U8
primitive_of kind.U16 = primitive.U16
primitive_of kind.U32 = primitive.U32
primitive_of kind.U64 = primitive.U64

-- the kind that numbers of a primitive have
abbrev pub kind_of : Primitive → Kind
kind_of primitive.Bool = kind.Bool
kind_of primitive.I8 = kind.I8
kind_of primitive.I16 = kind.I16
kind_of primitive.I32 = kind.I32
kind_of primitive.I64 = kind.I64
kind_of primitive.U8 = kind.U8
kind_of primitive.U16 = kind.U16
kind_of primitive.U32 = kind.U32
kind_of primitive.U64 = kind.U64

pub kind_of-primitive_of : (k : Kind) → kind_of (primitive_of k) ≡ k
kind_of-primitive_of kind.Bool = refl
kind_of-primitive_of kind.I8 = refl
kind_of-primitive_of kind.I16 = refl
kind_of-primitive_of kind.I32 = refl
kind_of-primitive_of kind.I64 = refl
kind_of-primitive_of kind.U8 = refl
kind_of-primitive_of kind.U16 = refl
kind_of-primitive_of kind.U32 = refl
kind_of-primitive_of kind.U64 = refl

pub primitive_of-kind_of : (p : Primitive) → primitive_of (kind_of p) ≡ p
primitive_of-kind_of primitive.Bool = refl
primitive_of-kind_of primitive.I8 = refl
primitive_of-kind_of primitive.I16 = refl
primitive_of-kind_of primitive.I32 = refl
primitive_of-kind_of primitive.I64 = refl
primitive_of-kind_of primitive.U8 = refl
primitive_of-kind_of primitive.U16 = refl
primitive_of-kind_of primitive.U32 = refl
primitive_of-kind_of primitive.U64 = refl
