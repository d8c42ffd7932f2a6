-- Which whole-number types promote to which.
use Rattle.std.specs.Prelude.{ℕ, Bool as Truth, true, false, ◌&&◌, nat_lt, Option, Some, None}
use Rattle.std.specs.Prelude.{if◌then◌else◌, ℤ}
use Rattle.awk_types.specs.declared.primitive.Primitive.{Primitive}
use Rattle.awk_types.specs.declared.primitive.Primitive.TheVariants.{Bool, I8, I16, I32, I64, U8}
use Rattle.awk_types.specs.declared.primitive.Primitive.TheVariants.{U16, U32, U64}
use Rattle.awk_types.specs.Has.{Holds}

abbrev pub is_whole : Primitive → Truth
is_whole Bool = false
is_whole p = true

abbrev pub is_signed : Primitive → Truth
is_signed I8 = true
is_signed I16 = true
is_signed I32 = true
is_signed I64 = true
is_signed p = false

-- the bits of a number
abbrev pub bits : Primitive → ℕ
bits Bool = 0
bits I8 = 8
bits I16 = 16
bits I32 = 32
bits I64 = 64
bits U8 = 8
bits U16 = 16
bits U32 = 32
bits U64 = 64

-- the one of more bits
abbrev pub wider : Primitive → Primitive → Primitive
wider p q = if nat_lt (bits p) (bits q) then q else p

-- the signed type of twice the bits of an unsigned one, where there is one
abbrev pub signed_twice : Primitive → Option Primitive
signed_twice U8 = Some I16
signed_twice U16 = Some I32
signed_twice U32 = Some I64
signed_twice p = None

-- a signed one and an unsigned one: the signed one where it has more bits, else the signed one of
-- twice the bits
abbrev pub promotion_mixed : Primitive → Primitive → Option Primitive
promotion_mixed p q = if nat_lt (bits q) (bits p) then Some p else signed_twice q

-- two whole-number types, by whether each is signed
abbrev pub promotion_whole : Truth → Truth → Primitive → Primitive → Option Primitive
promotion_whole true false p q = promotion_mixed p q
promotion_whole false true p q = promotion_mixed q p
promotion_whole a b p q = Some (wider p q)

-- truth values promote to nothing
abbrev pub promotion : Primitive → Primitive → Option Primitive
promotion p q =
    if is_whole p && is_whole q then promotion_whole (is_signed p) (is_signed q) p q else None

-- every number of p is one of r
abbrev pub HoldsAll : Primitive → Primitive → Type 0
HoldsAll p r = (z : ℤ) → Holds p z → Holds r z
