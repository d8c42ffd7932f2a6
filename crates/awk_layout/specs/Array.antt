-- Arrays: layouts whose simple type passes no limit.
use Rattle.std.specs.Prelude.{◌≡◌, None, Result}
use Rattle.awk_types.specs.DataType.{DataType}
use Rattle.awk_types.specs.Gives.{refused_or}
use Rattle.awk_types.specs.IsType.{IsType}
use Rattle.awk_types.specs.Limit.{Limit, limit}
use Rattle.awk_types.specs.Simple.{IsSimple}
use Rattle.awk_layout.specs.Layout.{Layout}
use Rattle.awk_layout.specs.Typing.{array_type}

-- the array of a layout, or the limit that its type passes
abbrev pub array_of : Layout → Result Layout Limit
array_of x = refused_or (limit (array_type x)) x

-- a type as each array has it: a simple one within the limits
pub record IsArrayType (t : DataType) : Type 0 where
  pub is_type : IsType t
  pub is_simple : IsSimple t
  pub within_limits : limit t ≡ None

-- the type that an array keeps
pub record IsTypeOf (t : DataType) (x : Layout) : Type 0 where
  pub typ : t ≡ array_type x
  pub lawful : IsArrayType t
