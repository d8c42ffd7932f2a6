-- Lanes seen as slices, and slices that lanes are made of.
use Rattle.std.specs.Prelude.{ℕ, ◌<◌, List, map, take, slice_index, get_or, ℤ, pos, ◌≤ℤ◌}
use Rattle.std.specs.Int.{cast_unsigned, from_le_bytes, to_le_bytes, w16, w32, w64}
use Rattle.std.specs.List.{flat_map, range_with_len}
use Rattle.awk_lanes.specs.declared.kind.Kind.{Kind}
use Rattle.awk_lanes.specs.declared.kind.Kind.TheVariants.{Bool as Truths, I8, I16, I32, I64}
use Rattle.awk_lanes.specs.declared.kind.Kind.TheVariants.{U8, U16, U32, U64}
use Rattle.awk_lanes.specs.Column.{Column}
use Rattle.awk_lanes.specs.Ranges.{IsNumber}

-- no number of the lane is negative; those of an unsigned kind never are
abbrev pub HasNats : Kind → List ℤ → Type 0
HasNats Truths zs = Unit {0}
HasNats U8 zs = Unit {0}
HasNats U16 zs = Unit {0}
HasNats U32 zs = Unit {0}
HasNats U64 zs = Unit {0}
HasNats _ zs = (i : ℕ) → pos 0 ≤ℤ get_or zs i (pos 0)

-- a kind of one byte a number, which is not negative
abbrev pub IsByteKind : Kind → Type 0
IsByteKind Truths = Unit {0}
IsByteKind U8 = Unit {0}
IsByteKind _ = ⊥

-- the numbers that u64 are
abbrev pub integers : List ℕ → List ℤ
integers ns = map pos ns

-- the lane of a kind that holds the numbers
abbrev pub column : Kind → List ℤ → Column
column kind zs = record { kind = kind; items = zs }

-- the number of the first bytes where it is not negative
abbrev pub unsigned : Kind → List ℕ → ℕ
unsigned Truths b = slice_index b 0
unsigned I8 b = slice_index b 0
unsigned I16 b = from_le_bytes w16 b
unsigned I32 b = from_le_bytes w32 b
unsigned I64 b = from_le_bytes w64 b
unsigned U8 b = slice_index b 0
unsigned U16 b = from_le_bytes w16 b
unsigned U32 b = from_le_bytes w32 b
unsigned U64 b = from_le_bytes w64 b

-- the lowest bytes of a number below 2 ^ 64
abbrev pub low_bytes : ℕ → ℕ → List ℕ
low_bytes w n = take w (to_le_bytes w64 n)

-- those of the first n numbers, in groups
abbrev pub low_groups : ℕ → ℕ → (ℕ → ℤ) → List (List ℕ)
low_groups w n f = map (λ i. low_bytes w (cast_unsigned w64 (f i))) (range_with_len 0 n)

-- one number after another
abbrev pub low_row : ℕ → ℕ → (ℕ → ℤ) → List ℕ
low_row w n f = flat_map (λ i. low_bytes w (cast_unsigned w64 (f i))) (range_with_len 0 n)

-- the first n numbers are in the range of the kind
abbrev pub AreOf : Kind → ℕ → (ℕ → ℤ) → Type 0
AreOf kind n f = (i : ℕ) → i < n → IsNumber kind (f i)
