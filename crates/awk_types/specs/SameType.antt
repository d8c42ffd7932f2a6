-- Tests of equality of primitives and of types.
use Rattle.std.specs.Prelude.{ℕ, Bool as Truth, true, false, ◌&&◌, ◌==◌}
use Rattle.awk_types.specs.declared.primitive.Primitive.{Primitive}
use Rattle.awk_types.specs.declared.primitive.Primitive.TheVariants.{Bool, I8, I16, I32, I64, U8}
use Rattle.awk_types.specs.declared.primitive.Primitive.TheVariants.{U16, U32, U64}
use Rattle.awk_types.specs.DataType.{DataType, unknown, leaf, var, reg, rec, tup, opt, uni}
use Rattle.awk_types.specs.DataType.{DataTypes, no_types, type}
use Rattle.awk_types.specs.Names.{same_names}

-- a number for each primitive
abbrev pub primitive_number : Primitive → ℕ
primitive_number Bool = 0
primitive_number I8 = 1
primitive_number I16 = 2
primitive_number I32 = 3
primitive_number I64 = 4
primitive_number U8 = 5
primitive_number U16 = 6
primitive_number U32 = 7
primitive_number U64 = 8

abbrev pub same_primitive : Primitive → Primitive → Truth
same_primitive p q = primitive_number p == primitive_number q

abbrev mutual
  pub same_type : DataType → DataType → Truth
  same_type unknown unknown = true
  same_type (leaf p) (leaf q) = same_primitive p q
  same_type (var t) (var u) = same_type t u
  same_type (reg n t) (reg m u) = n == m && same_type t u
  same_type (rec ns ts) (rec ms us) = same_names ns ms && same_types ts us
  same_type (tup ts) (tup us) = same_types ts us
  same_type (opt t) (opt u) = same_type t u
  same_type (uni ts) (uni us) = same_types ts us
  same_type t u = false

  pub same_types : DataTypes → DataTypes → Truth
  same_types no_types no_types = true
  same_types (type t ts) (type u us) = same_type t u && same_types ts us
  same_types ts us = false
