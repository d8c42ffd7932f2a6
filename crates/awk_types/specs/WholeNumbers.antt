-- Types of whole numbers.
use Rattle.std.specs.Prelude.{Bool, true, false}
use Rattle.awk_types.specs.DataType.{DataType, unknown, leaf}
use Rattle.awk_types.specs.declared.primitive.Primitive.TheVariants.{Bool as Truths}

-- whole numbers, or unknown
abbrev pub is_numbers : DataType → Bool
is_numbers unknown = true
is_numbers (leaf Truths) = false
is_numbers (leaf p) = true
is_numbers t = false
