-- What fills nulls.
use Rattle.std.specs.Prelude.{Bool, true, false, not, ℤ, ◌<◌}
use Rattle.awk_types.specs.Datum.{Datum, arr, one}
use Rattle.awk_types.specs.Simple.{is_option}
use Rattle.awk_types.specs.Value.{Value, int, null}
use Rattle.awk_layout.specs.Datum.{datum_of}
use Rattle.awk_layout.specs.Valid.{len}
use Rattle.awk_layout.specs.declared.datum.Datum.TheVariants.{One}
use Rattle.awk_layout.specs.declared.datum.Operand.{Operand}
use Rattle.awk_layout.specs.declared.datum.Operand.TheVariants.{Of, Literal}

-- what fills nulls: a whole number that takes its type from where it stands, or a datum
pub data Filler : Type 0 where
  literal : ℤ → Filler
  datum : Datum → Filler

abbrev pub filler_of : Operand → Filler
filler_of (Of x) = datum (datum_of x)
filler_of (Literal z) = literal z

-- a single value that is not optional, or a literal
abbrev pub is_filler : Filler → Bool
is_filler (literal z) = true
is_filler (datum (arr t vs)) = false
is_filler (datum (one t v)) = not (is_option t)

abbrev pub filler_value : Filler → Value
filler_value (literal z) = int z
filler_value (datum (arr u vs)) = null
filler_value (datum (one u v)) = v

-- a single value is the first item of its array, if there is one
abbrev pub HasFirst : Operand → Type 0
HasFirst (Of (One x)) = 0 < len x
HasFirst v = Unit {0}
