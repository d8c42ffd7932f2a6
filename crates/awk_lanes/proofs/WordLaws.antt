-- The numbers of one byte each, and of bytes that numbers were put into.
use Rattle.std.proofs.Common.{◌≡◌, ℕ, suc, zero, ◌*◌, ◌/◌, ◌%◌, ◌<◌, ◌≤◌, ◌^◌, List, [], ◌∷◌}
use Rattle.std.proofs.Common.{◌++◌, length, drop, get_or, map, refl, ap, sym, ◌∙◌, arith}
use Rattle.std.proofs.Common.{◌-◌, length-take, w8, w16, w32, w64}
use Rattle.std.proofs.lemmas.List.{take_at, drop_at}
use Rattle.std.proofs.lemmas.Nat.{from_le_bytes-to_le_bytes_4, from_le_bytes-to_le_bytes_8}
use Rattle.std.proofs.lemmas.Int.{ints, to_z-of_z, to_z_pos}
use Rattle.std.specs.Prelude.{ℤ, pos, negsuc}
use Rattle.std.specs.List.{flat_map}
use Rattle.std.specs.Int.{from_le_bytes, to_le_bytes, cast_signed, cast_unsigned}
use Rattle.awk_lanes.specs.declared.kind.Kind.{Kind}
use Rattle.awk_lanes.specs.declared.kind.Kind.TheVariants.{Bool as Truths, I8, I16, I32, I64}
use Rattle.awk_lanes.specs.declared.kind.Kind.TheVariants.{U8, U16, U32, U64}
use Rattle.awk_lanes.specs.Numbers.{width, number, numbers}
use Rattle.awk_lanes.specs.Ranges.{IsNumber, AreNumbers}
use Rattle.awk_lanes.specs.Words.{IsByteKind, integers, column, low_bytes}
use Rattle.awk_lanes.proofs.NumberParts.{number-take}

-- the numbers of one byte each are the bytes
integers-bytes : (k : Kind) (n : ℕ) (b : List ℕ) → IsByteKind k → n * width k ≡ length b
    → integers b ≡ numbers k n b
integers-bytes k zero [] h e = refl
integers-bytes k zero (x ∷ b) h e = absurd (omega (arith, e))
integers-bytes Truths (suc n) [] h e = absurd (omega (arith, e))
integers-bytes Truths (suc n) (x ∷ b) h e =
    ap (λ zs. pos x ∷ zs) (integers-bytes Truths n b h (omega (arith, e)))
integers-bytes U8 (suc n) [] h e = absurd (omega (arith, e))
integers-bytes U8 (suc n) (x ∷ b) h e =
    ap (λ zs. pos x ∷ zs) (integers-bytes U8 n b h (omega (arith, e)))
integers-bytes _ (suc n) b h e = absurd h

pub integers-byte_numbers : (k : Kind) (n : ℕ) (b : List ℕ) (zs : List ℤ) → IsByteKind k
    → length b ≡ n * width k → numbers k n b ≡ zs → integers b ≡ zs
integers-byte_numbers k n b zs h size same = integers-bytes k n b h (sym size) ∙ same

-- ---- the lowest bytes of a number

low-2 : (n : ℕ) → from_le_bytes w16 (low_bytes 2 n) ≡ n % 2 ^ 16
low-2 n = omega arith

low-4 : (n : ℕ) → from_le_bytes w32 (low_bytes 4 n) ≡ n % 2 ^ 32
low-4 n =
    let m : ℕ = n % 2 ^ 32 in
    let at_0 : n % 256 ≡ m % 256 = omega arith in
    let at_1 : n / 256 % 256 ≡ m / 256 % 256 = omega arith in
    let at_2 : n / 65536 % 256 ≡ m / 65536 % 256 = omega arith in
    let at_3 : n / 16777216 % 256 ≡ m / 16777216 % 256 = omega arith in
    omega (arith, at_0, at_1, at_2, at_3, from_le_bytes-to_le_bytes_4 m (omega arith))

nat_low : (k : Kind) (n : ℕ) → IsNumber k (pos n) → number k (low_bytes (width k) n) ≡ pos n
nat_low Truths n h = ap pos (omega (arith, ints, h.1))
nat_low I8 n h =
    let f : n < 2 ^ 7 = omega (arith, ints, h.1) in
    ap (cast_signed w8) (omega (arith, f)) ∙ to_z_pos w8 n f
nat_low I16 n h =
    let f : n < 2 ^ 15 = omega (arith, ints, h.1) in
    ap (cast_signed w16) (low-2 n ∙ omega (arith, f)) ∙ to_z_pos w16 n f
nat_low I32 n h =
    let f : n < 2 ^ 31 = omega (arith, ints, h.1) in
    ap (cast_signed w32) (low-4 n ∙ omega (arith, f)) ∙ to_z_pos w32 n f
nat_low I64 n h =
    let f : n < 2 ^ 63 = omega (arith, ints, h.1) in
    ap (cast_signed w64) (from_le_bytes-to_le_bytes_8 n (omega (arith, f))) ∙ to_z_pos w64 n f
nat_low U8 n h = ap pos (omega (arith, ints, h.1))
nat_low U16 n h = ap pos (low-2 n ∙ omega (arith, ints, h.1))
nat_low U32 n h = ap pos (low-4 n ∙ omega (arith, ints, h.1))
nat_low U64 n h = ap pos (from_le_bytes-to_le_bytes_8 n (omega (arith, ints, h.1)))

-- of a negative number, by the bytes of its two's complement
negative_low : (k : Kind) (n : ℕ) → IsNumber k (negsuc n)
    → number k (low_bytes (width k) (2 ^ 64 - suc n)) ≡ negsuc n
negative_low I8 n h =
    let f : n < 2 ^ 7 = omega (arith, ints, h.0) in
    let e : (2 ^ 64 - suc n) % 256 ≡ 2 ^ 8 - suc n = omega (arith, f) in
    ap (cast_signed w8) e ∙ to_z-of_z w8 (negsuc n) (record { sfits = f })
negative_low I16 n h =
    let f : n < 2 ^ 15 = omega (arith, ints, h.0) in
    let e : (2 ^ 64 - suc n) % 2 ^ 16 ≡ 2 ^ 16 - suc n = omega (arith, f) in
    ap (cast_signed w16) (low-2 (2 ^ 64 - suc n) ∙ e)
    ∙ to_z-of_z w16 (negsuc n) (record { sfits = f })
negative_low I32 n h =
    let f : n < 2 ^ 31 = omega (arith, ints, h.0) in
    let e : (2 ^ 64 - suc n) % 2 ^ 32 ≡ 2 ^ 32 - suc n = omega (arith, f) in
    ap (cast_signed w32) (low-4 (2 ^ 64 - suc n) ∙ e)
    ∙ to_z-of_z w32 (negsuc n) (record { sfits = f })
negative_low I64 n h =
    let f : n < 2 ^ 63 = omega (arith, ints, h.0) in
    ap (cast_signed w64) (from_le_bytes-to_le_bytes_8 (2 ^ 64 - suc n) (omega (arith, f)))
    ∙ to_z-of_z w64 (negsuc n) (record { sfits = f })
negative_low Truths n h = absurd (omega (arith, ints, h.0))
negative_low U8 n h = absurd (omega (arith, ints, h.0))
negative_low U16 n h = absurd (omega (arith, ints, h.0))
negative_low U32 n h = absurd (omega (arith, ints, h.0))
negative_low U64 n h = absurd (omega (arith, ints, h.0))

pub number_low : (k : Kind) (z : ℤ) → IsNumber k z
    → number k (low_bytes (width k) (cast_unsigned w64 z)) ≡ z
number_low k (pos n) h = nat_low k n h
number_low k (negsuc n) h = negative_low k n h

-- ---- the bytes of all numbers of a slice

pub width-small : (k : Kind) → width k ≤ 8
width-small Truths = omega arith
width-small I8 = omega arith
width-small I16 = omega arith
width-small I32 = omega arith
width-small I64 = omega arith
width-small U8 = omega arith
width-small U16 = omega arith
width-small U32 = omega arith
width-small U64 = omega arith

pub flat_map-map : {X : Type 0} (f : X → List ℕ) (xs : List X)
    → flat_map (λ b. b) (map f xs) ≡ flat_map f xs
flat_map-map f [] = refl
flat_map-map f (x ∷ xs) = ap (λ b. f x ++ b) (flat_map-map f xs)

module _ {X : Type 0} (k : Kind) (f : X → ℕ) (z : X → ℤ) where
  abbrev group : X → List ℕ
  group x = low_bytes (width k) (f x)

  pub numbers-flat_map : ((x : X) → IsNumber k (z x) → number k (group x) ≡ z x) → (xs : List X)
      → ((i : ℕ) → IsNumber k (get_or (map z xs) i (pos 0)))
      → numbers k (length xs) (flat_map group xs) ≡ map z xs
  numbers-flat_map e [] h = refl
  numbers-flat_map e (x ∷ xs) h =
      let others : List ℕ = flat_map group xs in
      let long : length (group x) ≡ width k =
      omega (arith, width-small k, length-take (width k) (to_le_bytes w64 (f x))) in
      let first : number k (group x ++ others) ≡ z x =
      sym (number-take k (width k) (group x ++ others) (omega arith))
      ∙ ap (number k) (take_at (group x) others (width k) long) ∙ e x (h 0) in
      let more : numbers k (length xs) (drop (width k) (group x ++ others)) ≡ map z xs =
      ap (numbers k (length xs)) (drop_at (group x) others (width k) long)
      ∙ numbers-flat_map e xs (λ i. h (suc i)) in
      cc

map_same : (zs : List ℤ) → map (λ z. z) zs ≡ zs
map_same [] = refl
map_same (z ∷ zs) = ap (λ ys. z ∷ ys) (map_same zs)

-- the numbers of the bytes are those of the slice
pub numbers-low : (k : Kind) (zs : List ℤ) → AreNumbers (column k zs)
    → numbers k (length zs) (flat_map (λ z. low_bytes (width k) (cast_unsigned w64 z)) zs) ≡ zs
numbers-low k zs h =
    numbers-flat_map k (cast_unsigned w64) (λ z. z) (number_low k) zs (rw (map_same zs) h)
    ∙ map_same zs

pub nats-low : (k : Kind) (ns : List ℕ) → AreNumbers (column k (integers ns))
    → numbers k (length ns) (flat_map (λ n. low_bytes (width k) n) ns) ≡ integers ns
nats-low k ns h = numbers-flat_map k (λ n. n) pos (nat_low k) ns h
