-- Keys of 64 bits, by which numbers are compared: those of unsigned kinds lie below their numbers.
use Rattle.std.specs.Prelude.{ℤ, pos, negsuc}
use Rattle.awk_lanes.specs.declared.kind.Kind.{Kind}
use Rattle.awk_lanes.specs.declared.kind.Kind.TheVariants.{Bool as Truths, I8, I16, I32, I64, U8}
use Rattle.awk_lanes.specs.declared.kind.Kind.TheVariants.{U16, U32, U64}
use Rattle.awk_lanes.specs.declared.kind.Num.{Num}
use Rattle.awk_lanes.specs.declared.kind.Num.TheVariants.{Int, Nat, Truth}

-- how far the keys of a kind lie from their numbers
abbrev pub shift_of : Kind → ℤ
shift_of Truths = pos 0
shift_of I8 = pos 0
shift_of I16 = pos 0
shift_of I32 = pos 0
shift_of I64 = pos 0
shift_of U8 = negsuc 9223372036854775807
shift_of U16 = negsuc 9223372036854775807
shift_of U32 = negsuc 9223372036854775807
shift_of U64 = negsuc 9223372036854775807

-- the same of a number as code holds it
abbrev pub shift_in : Num → ℤ
shift_in (Int z) = pos 0
shift_in (Nat n) = negsuc 9223372036854775807
shift_in (Truth b) = pos 0
