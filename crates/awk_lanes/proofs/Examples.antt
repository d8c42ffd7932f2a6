-- The definitions at worked examples.
use Rattle.std.proofs.Common.{◌≡◌, ℕ, zero, suc, ◌+◌, ◌-◌, ◌*◌, ◌^◌, [], ◌∷◌, refl}
use Rattle.std.specs.Prelude.{pos, negsuc, Some, None}
use Rattle.awk_lanes.specs.declared.kind.Kind.TheVariants.{Bool as Truths, I8, I16, I32, I64, U8}
use Rattle.awk_lanes.specs.declared.kind.Kind.TheVariants.{U16, U32, U64}
use Rattle.awk_lanes.specs.Counted.{before, offsets_by, numbers_of_lists}
use Rattle.awk_lanes.specs.Cut.{cut_of}
use Rattle.awk_lanes.specs.Made.{lane_of}
use Rattle.awk_lanes.specs.Numbers.{numbers, bytes_of}
use Rattle.awk_lanes.specs.Places.{at, option_place_at}
use Rattle.awk_lanes.specs.Runs.{run_at}
use Rattle.awk_lanes.specs.Words.{integers, low_bytes, unsigned}

-- ---- numbers

of_i8 : numbers I8 3 (255 ∷ 128 ∷ 127 ∷ []) ≡ negsuc 0 ∷ negsuc 127 ∷ pos 127 ∷ []
of_i8 = refl

of_i16 : numbers I16 3 (0xFE ∷ 0xFF ∷ 0x00 ∷ 0x80 ∷ 0x34 ∷ 0x12 ∷ []) ≡ negsuc 1 ∷ negsuc 32767 ∷
    pos 0x1234 ∷ []
of_i16 = refl

of_i32 : numbers I32 2 (0xFF ∷ 0xFF ∷ 0xFF ∷ 0xFF ∷ 0x78 ∷ 0x56 ∷ 0x34 ∷ 0x12 ∷ []) ≡ negsuc 0 ∷ pos
    0x12345678 ∷ []
of_i32 = refl

of_i64 : numbers I64 2 (0xFE ∷ 0xFF ∷ 0xFF ∷ 0xFF ∷ 0xFF ∷ 0xFF ∷ 0xFF ∷ 0xFF ∷ 0x08 ∷ 0x07 ∷ 0x06 ∷
    0x05 ∷ 0x04 ∷ 0x03 ∷ 0x02 ∷ 0x01 ∷ []) ≡ negsuc 1 ∷ pos 0x0102030405060708 ∷ []
of_i64 = refl

of_u8 : numbers U8 2 (255 ∷ 7 ∷ []) ≡ pos 255 ∷ pos 7 ∷ []
of_u8 = refl

of_u16 : numbers U16 2 (0xFF ∷ 0xFF ∷ 0x34 ∷ 0x12 ∷ []) ≡ pos 65535 ∷ pos 0x1234 ∷ []
of_u16 = refl

of_u32 : numbers U32 2 (0xFF ∷ 0xFF ∷ 0xFF ∷ 0xFF ∷ 0x78 ∷ 0x56 ∷ 0x34 ∷ 0x12 ∷ []) ≡ pos 4294967295
    ∷ pos 0x12345678 ∷ []
of_u32 = refl

of_u64 : numbers U64 1 (0xFE ∷ 0xFF ∷ 0xFF ∷ 0xFF ∷ 0xFF ∷ 0xFF ∷ 0xFF ∷ 0xFF ∷ []) ≡ pos
    18446744073709551614 ∷ []
of_u64 = refl

-- ---- truth values: a byte that is not 0 is read as 1, and 1 is written

first_truth : at (record { kind = Truths; items = numbers Truths 3 (0 ∷ 2 ∷ 1 ∷ []) }) 0 ≡ pos 0
first_truth = refl

second_truth : at (record { kind = Truths; items = numbers Truths 3 (0 ∷ 2 ∷ 1 ∷ []) }) 1 ≡ pos 1
second_truth = refl

written_truth : bytes_of Truths (pos 1) ≡ 1 ∷ []
written_truth = refl

-- ---- bytes of numbers

bytes_of_i16 : bytes_of I16 (negsuc 1) ≡ 0xFE ∷ 0xFF ∷ []
bytes_of_i16 = refl

bytes_of_u32 : bytes_of U32 (pos 0x12345678) ≡ 0x78 ∷ 0x56 ∷ 0x34 ∷ 0x12 ∷ []
bytes_of_u32 = refl

-- ---- parts and places

middle : cut_of (record { kind = I8; items = pos 5 ∷ negsuc 0 ∷ pos 7 ∷ [] }) 1 3 ≡
    record { kind = I8; items = negsuc 0 ∷ pos 7 ∷ [] }
middle = refl

no_place : option_place_at (record { kind = I32; items = pos 5 ∷ negsuc 0 ∷ [] }) 1 ≡ None
no_place = refl

a_place : option_place_at (record { kind = I32; items = pos 5 ∷ negsuc 0 ∷ [] }) 0 ≡ Some 5
a_place = refl

-- ---- made lanes

squares : lane_of U8 4 (λ i. pos (i * i))
    ≡ record { kind = U8; items = pos 0 ∷ pos 1 ∷ pos 4 ∷ pos 9 ∷ [] }
squares = refl

-- lists of 2, 0 and 3 items
abbrev sizes : ℕ → ℕ
sizes zero = 2
sizes (suc zero) = 0
sizes (suc (suc i)) = 3

all_items : before sizes 3 ≡ 5
all_items = refl

three_lists : (offsets_by sizes 3).items ≡ pos 0 ∷ pos 2 ∷ pos 2 ∷ pos 5 ∷ []
three_lists = refl

-- the item k of list i as 10 * i + k
tens : numbers_of_lists sizes (λ i k. pos (10 * i + k)) 3
    ≡ pos 0 ∷ pos 1 ∷ pos 20 ∷ pos 21 ∷ pos 22 ∷ []
tens = refl

-- ---- slices

as_integers : integers (7 ∷ 255 ∷ []) ≡ pos 7 ∷ pos 255 ∷ []
as_integers = refl

as_unsigned : unsigned I16 (0x34 ∷ 0x12 ∷ []) ≡ 0x1234
as_unsigned = refl

-- the lowest two bytes of -2
low_two : low_bytes 2 (2 ^ 64 - 2) ≡ 0xFE ∷ 0xFF ∷ []
low_two = refl

-- ---- places in order

-- two from place 5 on, and -1 past them
two_of_four : (lane_of I64 4 (run_at 5 2)).items ≡ pos 5 ∷ pos 6 ∷ negsuc 0 ∷ negsuc 0 ∷ []
two_of_four = refl
