-- The little-endian numbers in bytes.
use Rattle.std.specs.Prelude.{ℕ, suc, zero, ◌<◌, ◌^◌, List, [], ◌∷◌, drop, slice_index, ℤ, pos}
use Rattle.std.specs.Prelude.{negsuc, Bool, true, false, if◌then◌else◌, FitsSigned}
use Rattle.std.specs.Int.{from_le_bytes, to_le_bytes, cast_signed, cast_unsigned, w8, w16, w32, w64}
use Rattle.awk_lanes.specs.declared.kind.Kind.{Kind}
use Rattle.awk_lanes.specs.declared.kind.Kind.TheVariants.{Bool as Truths, I8, I16, I32, I64, U8}
use Rattle.awk_lanes.specs.declared.kind.Kind.TheVariants.{U16, U32, U64}
use Rattle.awk_lanes.specs.declared.kind.Num.{Num}
use Rattle.awk_lanes.specs.declared.kind.Num.TheVariants.{Int, Nat, Truth}

-- each is below 256
abbrev pub AreBytes : List ℕ → Type 0
AreBytes b = (i : ℕ) → slice_index b i < 256

-- in how many bytes a number lies
abbrev pub width : Kind → ℕ
width Truths = 1
width I8 = 1
width I16 = 2
width I32 = 4
width I64 = 8
width U8 = 1
width U16 = 2
width U32 = 4
width U64 = 8

-- the number that the first bytes are, least significant byte first, signed kinds in two's
-- complement; of a truth value the byte as it lies there
abbrev pub number : Kind → List ℕ → ℤ
number Truths b = pos (slice_index b 0)
number I8 b = cast_signed w8 (slice_index b 0)
number I16 b = cast_signed w16 (from_le_bytes w16 b)
number I32 b = cast_signed w32 (from_le_bytes w32 b)
number I64 b = cast_signed w64 (from_le_bytes w64 b)
number U8 b = pos (slice_index b 0)
number U16 b = pos (from_le_bytes w16 b)
number U32 b = pos (from_le_bytes w32 b)
number U64 b = pos (from_le_bytes w64 b)

-- the first n numbers, one after another
abbrev pub numbers : Kind → ℕ → List ℕ → List ℤ
numbers k zero b = []
numbers k (suc n) b = number k b ∷ numbers k n (drop (width k) b)

-- whether a number is not 0
abbrev pub is_nonzero : ℤ → Bool
is_nonzero (pos zero) = false
is_nonzero (pos (suc n)) = true
is_nonzero (negsuc n) = true

-- what such a number is read as: a truth value is 1 where its byte is not 0
abbrev pub element : Kind → ℤ → ℤ
element Truths z = pos (if is_nonzero z then 1 else 0)
element _ z = z

-- a number as a place or a count: a negative number is 0
abbrev pub nat_of : ℤ → ℕ
nat_of (pos n) = n
nat_of (negsuc n) = 0

-- the number that code holds, a truth value as 0 or 1
abbrev pub int_of : Num → ℤ
int_of (Int z) = z
int_of (Nat n) = pos n
int_of (Truth b) = pos (if b then 1 else 0)

-- code holds it as it holds the numbers of this kind, and it is in the kind's range
abbrev pub IsOf : Kind → Num → Type 0
IsOf Truths (Truth b) = Unit {0}
IsOf I8 (Int z) = FitsSigned w8 z
IsOf I16 (Int z) = FitsSigned w16 z
IsOf I32 (Int z) = FitsSigned w32 z
IsOf I64 (Int z) = FitsSigned w64 z
IsOf U8 (Nat n) = n < 2 ^ 8
IsOf U16 (Nat n) = n < 2 ^ 16
IsOf U32 (Nat n) = n < 2 ^ 32
IsOf U64 (Nat n) = n < 2 ^ 64
IsOf _ _ = ⊥

-- the bytes that a lane holds for a number of its kind
abbrev pub bytes_of : Kind → ℤ → List ℕ
bytes_of Truths z = nat_of z ∷ []
bytes_of I8 z = to_le_bytes w8 (cast_unsigned w8 z)
bytes_of I16 z = to_le_bytes w16 (cast_unsigned w16 z)
bytes_of I32 z = to_le_bytes w32 (cast_unsigned w32 z)
bytes_of I64 z = to_le_bytes w64 (cast_unsigned w64 z)
bytes_of U8 z = nat_of z ∷ []
bytes_of U16 z = to_le_bytes w16 (nat_of z)
bytes_of U32 z = to_le_bytes w32 (nat_of z)
bytes_of U64 z = to_le_bytes w64 (nat_of z)
