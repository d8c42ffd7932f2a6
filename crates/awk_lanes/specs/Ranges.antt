-- The numbers that a lane of a kind can hold; of a truth value they are those of its byte.
use Rattle.std.specs.Prelude.{ℕ, ℤ, pos, negsuc, ◌≤ℤ◌, get_or}
use Rattle.awk_lanes.specs.declared.kind.Kind.{Kind}
use Rattle.awk_lanes.specs.declared.kind.Kind.TheVariants.{Bool as Truths, I8, I16, I32, I64, U8}
use Rattle.awk_lanes.specs.declared.kind.Kind.TheVariants.{U16, U32, U64}
use Rattle.awk_lanes.specs.Column.{Column}

-- a number lies in the range of the kind
abbrev pub IsNumber : Kind → ℤ → Type 0
IsNumber Truths z = (pos 0 ≤ℤ z) × (z ≤ℤ pos 255)
IsNumber I8 z = (negsuc 127 ≤ℤ z) × (z ≤ℤ pos 127)
IsNumber I16 z = (negsuc 32767 ≤ℤ z) × (z ≤ℤ pos 32767)
IsNumber I32 z = (negsuc 2147483647 ≤ℤ z) × (z ≤ℤ pos 2147483647)
IsNumber I64 z = (negsuc 9223372036854775807 ≤ℤ z) × (z ≤ℤ pos 9223372036854775807)
IsNumber U8 z = (pos 0 ≤ℤ z) × (z ≤ℤ pos 255)
IsNumber U16 z = (pos 0 ≤ℤ z) × (z ≤ℤ pos 65535)
IsNumber U32 z = (pos 0 ≤ℤ z) × (z ≤ℤ pos 4294967295)
IsNumber U64 z = (pos 0 ≤ℤ z) × (z ≤ℤ pos 18446744073709551615)

-- each number of a column is one of its kind
abbrev pub AreNumbers : Column → Type 0
AreNumbers c = (i : ℕ) → IsNumber c.kind (get_or c.items i (pos 0))
