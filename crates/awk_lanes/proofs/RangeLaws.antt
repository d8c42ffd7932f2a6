-- The numbers of bytes are in the range of their kind.
use Rattle.std.proofs.Common.{◌≡◌, ℕ, suc, zero, ◌<◌, ◌^◌, List, drop, get_or, arith, subst, w8}
use Rattle.std.proofs.Common.{w16, w32, w64, SFits}
use Rattle.std.specs.Prelude.{ℤ, pos, negsuc, slice_index}
use Rattle.std.specs.Int.{from_le_bytes}
use Rattle.std.proofs.Math.Facts.{sfits_to_z}
use Rattle.std.proofs.lemmas.Int.{ints}
use Rattle.awk_lanes.specs.declared.kind.Kind.{Kind}
use Rattle.awk_lanes.specs.declared.kind.Kind.TheVariants.{Bool as Truths, I8, I16, I32, I64, U8}
use Rattle.awk_lanes.specs.declared.kind.Kind.TheVariants.{U16, U32, U64}
use Rattle.awk_lanes.specs.Column.{Column}
use Rattle.awk_lanes.specs.Numbers.{width, number, numbers, AreBytes}
use Rattle.awk_lanes.specs.Ranges.{IsNumber, AreNumbers}
use Rattle.awk_lanes.proofs.NumberParts.{AreBytes-drop, from_le_bytes-below}

pub fits_8 : (z : ℤ) → SFits w8 z → IsNumber I8 z
fits_8 (pos n) h = let f : n < 2 ^ 7 = h.sfits in (omega (arith, ints), omega (arith, ints))
fits_8 (negsuc n) h = let f : n < 2 ^ 7 = h.sfits in (omega (arith, ints), omega (arith, ints))

pub fits_16 : (z : ℤ) → SFits w16 z → IsNumber I16 z
fits_16 (pos n) h = let f : n < 2 ^ 15 = h.sfits in (omega (arith, ints), omega (arith, ints))
fits_16 (negsuc n) h = let f : n < 2 ^ 15 = h.sfits in (omega (arith, ints), omega (arith, ints))

pub fits_32 : (z : ℤ) → SFits w32 z → IsNumber I32 z
fits_32 (pos n) h = let f : n < 2 ^ 31 = h.sfits in (omega (arith, ints), omega (arith, ints))
fits_32 (negsuc n) h = let f : n < 2 ^ 31 = h.sfits in (omega (arith, ints), omega (arith, ints))

pub fits_64 : (z : ℤ) → SFits w64 z → IsNumber I64 z
fits_64 (pos n) h = let f : n < 2 ^ 63 = h.sfits in (omega (arith, ints), omega (arith, ints))
fits_64 (negsuc n) h = let f : n < 2 ^ 63 = h.sfits in (omega (arith, ints), omega (arith, ints))

-- a number of 32 bits fits 64
pub widens_32 : (z : ℤ) → SFits w32 z → SFits w64 z
widens_32 (pos n) h =
    let f : n < 2 ^ 31 = h.sfits in
    let g : n < 2 ^ 63 = omega arith in
    record { sfits = g }
widens_32 (negsuc n) h =
    let f : n < 2 ^ 31 = h.sfits in
    let g : n < 2 ^ 63 = omega arith in
    record { sfits = g }

pub zero_number : (k : Kind) → IsNumber k (pos 0)
zero_number Truths = (omega (arith, ints), omega (arith, ints))
zero_number I8 = (omega (arith, ints), omega (arith, ints))
zero_number I16 = (omega (arith, ints), omega (arith, ints))
zero_number I32 = (omega (arith, ints), omega (arith, ints))
zero_number I64 = (omega (arith, ints), omega (arith, ints))
zero_number U8 = (omega (arith, ints), omega (arith, ints))
zero_number U16 = (omega (arith, ints), omega (arith, ints))
zero_number U32 = (omega (arith, ints), omega (arith, ints))
zero_number U64 = (omega (arith, ints), omega (arith, ints))

-- the number of the first bytes
number_fits : (k : Kind) (b : List ℕ) → AreBytes b → IsNumber k (number k b)
number_fits Truths b h =
    let f : slice_index b 0 < 256 = h 0 in (omega (arith, ints), omega (arith, ints))
number_fits I8 b h = fits_8 (number I8 b) (sfits_to_z (record { fits = h 0 }))
number_fits I16 b h =
    fits_16 (number I16 b) (sfits_to_z (record { fits = from_le_bytes-below w16 b h }))
number_fits I32 b h =
    fits_32 (number I32 b) (sfits_to_z (record { fits = from_le_bytes-below w32 b h }))
number_fits I64 b h =
    fits_64 (number I64 b) (sfits_to_z (record { fits = from_le_bytes-below w64 b h }))
number_fits U8 b h =
    let f : slice_index b 0 < 256 = h 0 in (omega (arith, ints), omega (arith, ints))
number_fits U16 b h =
    let f : from_le_bytes w16 b < 2 ^ 16 = from_le_bytes-below w16 b h in
    (omega (arith, ints), omega (arith, ints))
number_fits U32 b h =
    let f : from_le_bytes w32 b < 2 ^ 32 = from_le_bytes-below w32 b h in
    (omega (arith, ints), omega (arith, ints))
number_fits U64 b h =
    let f : from_le_bytes w64 b < 2 ^ 64 = from_le_bytes-below w64 b h in
    (omega (arith, ints), omega (arith, ints))

numbers_fit : (k : Kind) (n : ℕ) (b : List ℕ) → AreBytes b → (i : ℕ)
    → IsNumber k (get_or (numbers k n b) i (pos 0))
numbers_fit k zero b h i = zero_number k
numbers_fit k (suc n) b h zero = number_fits k b h
numbers_fit k (suc n) b h (suc i) =
    numbers_fit k n (drop (width k) b) (AreBytes-drop (width k) b h) i

-- the numbers of an opened lane
pub opened_fit : (k : Kind) (n : ℕ) (b : List ℕ) (v : Column) → AreBytes b → ◌≡◌ {A = Column}
    (record { kind = k; items = numbers k n b }) v → AreNumbers v
opened_fit k n b v h e = subst AreNumbers e (λ i. numbers_fit k n b h i)
