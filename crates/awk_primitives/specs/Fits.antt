-- Which numbers a primitive holds, as a test, and which literals fit a type.
use Rattle.std.specs.Prelude.{◌&&◌, Bool, ℤ, int_le}
use Rattle.awk_types.specs.DataType.{DataType, leaf}
use Rattle.awk_types.specs.Has.{least_number, greatest_number}
use Rattle.awk_types.specs.declared.primitive.Primitive.{Primitive}
use Rattle.awk_types.specs.declared.primitive.Primitive.TheVariants.{Bool as Truths, I64}

abbrev pub fits : Primitive → ℤ → Bool
fits p z = int_le (least_number p) z && int_le z (greatest_number p)

-- a literal takes the type of the items where that is a whole-number type, else int64
abbrev pub literal_primitive : DataType → Primitive
literal_primitive (leaf Truths) = I64
literal_primitive (leaf p) = p
literal_primitive t = I64

abbrev pub literal_fits : DataType → ℤ → Bool
literal_fits t z = fits (literal_primitive t) z
