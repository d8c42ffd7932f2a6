-- The numbers of a part of the bytes, and of bytes that were put after others.
use Rattle.std.proofs.Common.{◌≡◌, ℕ, suc, zero, ◌+◌, ◌-◌, ◌*◌, ◌<◌, ◌≤◌, List, [], ◌∷◌, ◌++◌}
use Rattle.std.proofs.Common.{length, drop, take, get_or, refl, ap, ap₂, sym, inl, inr, ◌⊎◌, ◌∙◌}
use Rattle.std.proofs.Common.{arith}
use Rattle.std.proofs.Common.{add-one, get_or-take, drop-drop, length-drop, length-take}
use Rattle.std.proofs.Common.{get_or-drop, true, false, w8, w16, w32, w64, ◌^◌, ◌%◌, ◌/◌, map}
use Rattle.std.proofs.Math.Facts.{Fits-of_z}
use Rattle.std.proofs.Math.Nat.{pow-suc, add-mul}
use Rattle.std.proofs.lemmas.Bool.{cases_lt}
use Rattle.std.proofs.lemmas.List.{take-append-drop, drop-take, ext_get_or, get_or_past}
use Rattle.std.proofs.lemmas.List.{take-append-le, drop-append-le}
use Rattle.std.proofs.lemmas.Nat.{row_fits, mul-le, le_bytes_2, le_bytes_4, le_bytes_8}
use Rattle.std.proofs.lemmas.Nat.{from_le_bytes-to_le_bytes_2, from_le_bytes-to_le_bytes_4}
use Rattle.std.proofs.lemmas.Nat.{from_le_bytes-to_le_bytes_8}
use Rattle.std.proofs.lemmas.Int.{to_z-of_z, of_z-to_z}
use Rattle.std.specs.Prelude.{ℤ, pos, slice_range}
use Rattle.std.specs.List.{flat_map}
use Rattle.std.specs.Simd.{first_chunks}
use Rattle.std.specs.Int.{Width, byte_len, byte_worth, sum_through, from_le_bytes, to_le_bytes}
use Rattle.std.specs.Int.{cast_signed, cast_unsigned}
use Rattle.awk_lanes.specs.declared.kind.Kind.{Kind}
use Rattle.awk_lanes.specs.declared.kind.Kind.TheVariants.{Bool as Truths, I8, I16, I32, I64, U8}
use Rattle.awk_lanes.specs.declared.kind.Kind.TheVariants.{U16, U32, U64}
use Rattle.awk_lanes.specs.declared.kind.Num.{Num}
use Rattle.awk_lanes.specs.declared.kind.Num.TheVariants.{Int, Nat, Truth}
use Rattle.awk_lanes.specs.Column.{Column}
use Rattle.awk_lanes.specs.Numbers.{width, number, numbers, int_of, bytes_of, AreBytes, IsOf}

pub length-numbers : (k : Kind) (n : ℕ) (b : List ℕ) → length (numbers k n b) ≡ n
length-numbers k zero b = refl
length-numbers k (suc n) b = grind (arith, length-numbers k n (drop (width k) b))

-- ---- what is known of an opened lane

pub record IsOpened (k : Kind) (n : ℕ) (b : List ℕ) (v : Column) : Type 0 where
  pub kind : k ≡ v.kind
  pub count : n ≡ length v.items
  pub items : numbers k n b ≡ v.items

pub opened : (k : Kind) (n : ℕ) (b : List ℕ) (v : Column) → ◌≡◌ {A = Column}
    (record { kind = k; items = numbers k n b }) v → IsOpened k n b v
opened k n b v e = record {
  kind = ap (λ (x : Column). x.kind) e;
  count = sym (length-numbers k n b) ∙ ap (λ (x : Column). length x.items) e;
  items = ap (λ (x : Column). x.items) e;
}

-- ---- a number needs its own bytes alone

sum_through-same : (f g : ℕ → ℕ) (k : ℕ) → ((i : ℕ) → i ≤ k → f i ≡ g i)
    → sum_through f k ≡ sum_through g k
sum_through-same f g zero h = h 0 (omega arith)
sum_through-same f g (suc k) h =
    let below : sum_through f k ≡ sum_through g k = sum_through-same f g k
    (λ i p. h i (omega arith)) in
    let last : f (suc k) ≡ g (suc k) = h (suc k) (omega arith) in
    cc

from_le_bytes-take : (w : Width) (m : ℕ) (b : List ℕ) → 0 < byte_len w → byte_len w ≤ m
    → from_le_bytes w (take m b) ≡ from_le_bytes w b
from_le_bytes-take w m b some h =
    sum_through-same (λ i. byte_worth i (get_or (take m b) i 0)) (λ i. byte_worth i (get_or b i 0))
    (byte_len w - 1)
    (λ i p. ap (byte_worth i) (get_or-take m b i 0 (omega arith)))

pub number-take : (k : Kind) (m : ℕ) (b : List ℕ) → width k ≤ m → number k (take m b) ≡ number k b
number-take Truths m b h = rw (get_or-take m b 0 0 (omega arith)) refl
number-take I8 m b h = ap (cast_signed w8) (get_or-take m b 0 0 (omega arith))
number-take I16 m b h = ap (cast_signed w16) (from_le_bytes-take w16 m b (omega arith) h)
number-take I32 m b h = ap (cast_signed w32) (from_le_bytes-take w32 m b (omega arith) h)
number-take I64 m b h = ap (cast_signed w64) (from_le_bytes-take w64 m b (omega arith) h)
number-take U8 m b h = ap pos (get_or-take m b 0 0 (omega arith))
number-take U16 m b h = ap pos (from_le_bytes-take w16 m b (omega arith) h)
number-take U32 m b h = ap pos (from_le_bytes-take w32 m b (omega arith) h)
number-take U64 m b h = ap pos (from_le_bytes-take w64 m b (omega arith) h)

-- ---- by place

-- the number at a place is that of the bytes there
pub get_or-numbers : (k : Kind) (n : ℕ) (b : List ℕ) (i : ℕ) → i < n
    → get_or (numbers k n b) i (pos 0) ≡ number k (drop (i * width k) b)
get_or-numbers k zero b i h = absurd (omega arith)
get_or-numbers k (suc n) b zero h = let e : 0 * width k ≡ 0 = omega arith in rw e refl
get_or-numbers k (suc n) b (suc i) h =
    let e : width k + i * width k ≡ suc i * width k = omega arith in
    get_or-numbers k n (drop (width k) b) i (omega arith) ∙ ap (number k)
    (drop-drop (i * width k) (width k) b ∙ ap (λ m. drop m b) e)

-- the numbers of a part are the part of the numbers
pub numbers-slice_range : (k : Kind) (n : ℕ) (b : List ℕ) (lo hi : ℕ) → lo ≤ hi → hi ≤ n
    → numbers k (hi - lo) (slice_range b (lo * width k) (hi * width k)) ≡ slice_range
    (numbers k n b) lo hi
numbers-slice_range k n b lo hi p q =
    let len : length (slice_range (numbers k n b) lo hi) ≡ hi - lo = omega (
      arith,
      length-take (hi - lo) (drop lo (numbers k n b)),
      length-drop lo (numbers k n b),
      length-numbers k n b,
    ) in
    ext_get_or (pos 0) _ _ (length-numbers k (hi - lo) (slice_range b (lo * width k) (hi * width k))
    ∙ sym len)
    (λ j h.
    let h' : j < hi - lo = omega (
      arith,
      length-numbers k (hi - lo)
          (slice_range b (lo * width k) (hi * width k)),
    ) in
    get_or-numbers k (hi - lo) (slice_range b (lo * width k) (hi * width k)) j h'
    ∙ number-part k b lo hi j h'
    ∙ sym (get_or-numbers k n b (lo + j) (omega arith))
    ∙ sym (get_or-drop lo (numbers k n b) j (pos 0))
    ∙ sym (get_or-take (hi - lo) (drop lo (numbers k n b)) j (pos 0) h'))
  where
    number-part : (k : Kind) (b : List ℕ) (lo hi j : ℕ) → j < hi - lo
        → number k (drop (j * width k) (slice_range b (lo * width k) (hi * width k))) ≡ number k
        (drop ((lo + j) * width k) b)
    number-part k b lo hi j h =
        let w : ℕ = width k in
        let fits : (lo + j) * w + w ≤ hi * w = row_fits (lo + j) w hi w (omega arith)
        (omega arith) in
        let split : (lo + j) * w ≡ lo * w + j * w = omega arith in
        let m : ℕ = hi * w - lo * w in
        let e : m ≡ j * w + (m - j * w) = omega arith in
        ap (λ x. number k (drop (j * w) (take x (drop (lo * w) b)))) e
        ∙ ap (number k) (drop-take (j * w) (m - j * w) (drop (lo * w) b))
        ∙ number-take k (m - j * w) (drop (j * w) (drop (lo * w) b)) (omega arith)
        ∙ ap (number k) (drop-drop (j * w) (lo * w) b ∙ ap (λ x. drop x b) (sym split))

-- how long the bytes of a part are
pub length-part : (b : List ℕ) (lo hi w : ℕ) → lo ≤ hi → hi * w ≤ length b
    → (hi - lo) * w ≡ length (slice_range b (lo * w) (hi * w))
length-part b lo hi w p q =
    let d : ℕ = hi - lo in
    let e : hi ≡ lo + d = omega arith in
    let f : hi * w ≡ lo * w + d * w = ap (λ x. x * w) e ∙ add-mul lo d w in
    omega (arith, length-take (hi * w - lo * w) (drop (lo * w) b), length-drop (lo * w) b)

-- ---- one more number

-- the numbers of the bytes with the bytes of one more number after them
pub numbers-append : (k : Kind) (n : ℕ) (b bs : List ℕ) → n * width k ≡ length b
    → numbers k (n + 1) (b ++ bs) ≡ numbers k n b ++ number k bs ∷ []
numbers-append k zero [] bs h = refl
numbers-append k zero (x ∷ b) bs h = absurd (omega arith)
numbers-append k (suc n) b bs h =
    let w : ℕ = width k in
    let e : suc n * w ≡ w + n * w = omega arith in
    let l : w ≤ length b = omega arith in
    let d : n * w ≡ length (drop w b) = omega (arith, length-drop w b) in
    rw (add-one) (ap (λ (x : ℤ). x ∷ numbers k (suc n) (drop w (b ++ bs)))
    (sym (number-take k w (b ++ bs) (omega arith)) ∙ ap (number k) (take-append-le w b bs l) ∙
    number-take k w b (omega arith))
    ∙ ap (λ (xs : List ℤ). number k b ∷ xs) (ap (numbers k (suc n)) (drop-append-le w b bs l) ∙ ap
    (λ (m : ℕ). numbers k m (drop w b ++ bs)) (sym (add-one n)) ∙ numbers-append k n (drop w b)
    bs d))

mod_small : (n : ℕ) → n < 256 → n % 256 ≡ n
mod_small n h = omega arith

-- the first of the bytes of a number below 256 is that number
byte-low : (n : ℕ) → n < 256 → get_or (to_le_bytes w8 n) 0 0 ≡ n
byte-low n h = mod_small n h

-- the number of the bytes that hold a number is that number
pub number-bytes_of : (k : Kind) (x : Num) → IsOf k x → number k (bytes_of k (int_of x)) ≡ int_of x
number-bytes_of Truths (Truth true) h = refl
number-bytes_of Truths (Truth false) h = refl
number-bytes_of I8 (Int z) h =
    ap (cast_signed w8) (byte-low (cast_unsigned w8 z) (Fits-of_z {w = w8} {z = z} h).fits) ∙
    to_z-of_z w8 z h
number-bytes_of I16 (Int z) h =
    ap (cast_signed w16) (from_le_bytes-to_le_bytes_2 (cast_unsigned w16 z)
    (Fits-of_z {w = w16} {z = z} h).fits) ∙ to_z-of_z w16 z h
number-bytes_of I32 (Int z) h =
    ap (cast_signed w32) (from_le_bytes-to_le_bytes_4 (cast_unsigned w32 z)
    (Fits-of_z {w = w32} {z = z} h).fits) ∙ to_z-of_z w32 z h
number-bytes_of I64 (Int z) h =
    ap (cast_signed w64) (from_le_bytes-to_le_bytes_8 (cast_unsigned w64 z)
    (Fits-of_z {w = w64} {z = z} h).fits) ∙ to_z-of_z w64 z h
number-bytes_of U8 (Nat n) h = refl
number-bytes_of U16 (Nat n) h = ap pos (from_le_bytes-to_le_bytes_2 n h)
number-bytes_of U32 (Nat n) h = ap pos (from_le_bytes-to_le_bytes_4 n h)
number-bytes_of U64 (Nat n) h = ap pos (from_le_bytes-to_le_bytes_8 n h)
number-bytes_of _ _ h = absurd h

-- the numbers of bytes, with others after them
pub numbers-join : (k : Kind) (n m : ℕ) (a b : List ℕ) → length a ≡ n * width k
    → numbers k (n + m) (a ++ b) ≡ numbers k n a ++ numbers k m b
numbers-join k zero m [] b h = let e : 0 + m ≡ m = omega arith in ap (λ i. numbers k i b) e
numbers-join k zero m (x ∷ a) b h = absurd (omega (arith, h))
numbers-join k (suc n) m a b h =
    let w : ℕ = width k in
    let e : suc n * w ≡ w + n * w = omega arith in
    let l : w ≤ length a = omega (arith, h, e) in
    let d : length (drop w a) ≡ n * w = omega (arith, length-drop w a, h, e) in
    let s : suc n + m ≡ suc (n + m) = omega arith in
    ap (λ i. numbers k i (a ++ b)) s
    ∙ ap₂ (λ z zs. z ∷ zs)
    (sym (number-take k w (a ++ b) (omega arith)) ∙ ap (number k) (take-append-le w a b l)
    ∙ number-take k w a (omega arith))
    (ap (numbers k (n + m)) (drop-append-le w a b l) ∙ numbers-join k n m (drop w a) b d)

-- ---- all numbers at once

-- the number of each group of bytes
map-number : (k : Kind) (n : ℕ) (b : List ℕ)
    → map (number k) (first_chunks (width k) n b) ≡ numbers k n b
map-number k zero b = refl
map-number k (suc n) b =
    let first : number k (take (width k) b) ≡ number k b = number-take k (width k) b
    (omega arith) in
    let others : map (number k) (first_chunks (width k) n (drop (width k) b)) ≡ numbers k n
    (drop (width k) b) = map-number k n (drop (width k) b) in
    cc

mul-div_width : (k : Kind) (n : ℕ) → n * width k / width k ≡ n
mul-div_width Truths n = omega arith
mul-div_width I8 n = omega arith
mul-div_width I16 n = omega arith
mul-div_width I32 n = omega arith
mul-div_width I64 n = omega arith
mul-div_width U8 n = omega arith
mul-div_width U16 n = omega arith
mul-div_width U32 n = omega arith
mul-div_width U64 n = omega arith

pub map-number_all : (k : Kind) (n : ℕ) (b : List ℕ) (xs : List ℤ) → length b ≡ n * width k
    → numbers k n b ≡ xs → map (number k) (first_chunks (width k) (length b / width k) b) ≡ xs
map-number_all k n b xs h e =
    let count : length b / width k ≡ n = ap (λ m. m / width k) h ∙ mul-div_width k n in
    ap (λ m. map (number k) (first_chunks (width k) m b)) count ∙ map-number k n b ∙ e

-- ---- the bytes of numbers

AreBytes-take : (m : ℕ) (b : List ℕ) → AreBytes b → AreBytes (take m b)
AreBytes-take m b h i = in_or_out (cases_lt i m)
  where
    in_or_out : (i < m) ⊎ (m ≤ i) → get_or (take m b) i 0 < 256
    in_or_out (inl p) = rw (get_or-take m b i 0 p) (h i)
    in_or_out (inr p) =
        rw (get_or_past (take m b) i 0 (omega (arith, length-take m b))) (omega arith)

pub AreBytes-drop : (m : ℕ) (b : List ℕ) → AreBytes b → AreBytes (drop m b)
AreBytes-drop m b h i = rw (get_or-drop m b i 0) (h (m + i))

pub AreBytes-slice_range : (b : List ℕ) (lo hi : ℕ) → AreBytes b → AreBytes (slice_range b lo hi)
AreBytes-slice_range b lo hi h = AreBytes-take (hi - lo) (drop lo b) (AreBytes-drop lo b h)

bytes_worth-below : (f : ℕ → ℕ) (k : ℕ) → ((i : ℕ) → f i < 256)
    → sum_through (λ i. byte_worth i (f i)) k < 256 ^ suc k
bytes_worth-below f zero h = let first : f 0 < 256 = h 0 in omega arith
bytes_worth-below f (suc k) h =
    let p : ℕ = 256 ^ suc k in
    let below : sum_through (λ i. byte_worth i (f i)) k < p = bytes_worth-below f k h in
    let last : f (suc k) < 256 = h (suc k) in
    let worth : f (suc k) * p ≤ 255 * p = mul-le (f (suc k)) p 255 p (omega arith) (omega arith) in
    let more : 256 ^ suc (suc k) ≡ p * 256 = pow-suc 256 (suc k) in
    omega arith

pub from_le_bytes-below : (w : Width) (b : List ℕ) → AreBytes b
    → from_le_bytes w b < 256 ^ suc (byte_len w - 1)
from_le_bytes-below w b h = bytes_worth-below (λ i. get_or b i 0) (byte_len w - 1) h

to_le_bytes-from_2 : (b : List ℕ) → 2 ≤ length b → AreBytes b
    → to_le_bytes w16 (from_le_bytes w16 b) ≡ take 2 b
to_le_bytes-from_2 b l h =
    le_bytes_2 (take 2 b) (from_le_bytes w16 b) (omega (arith, length-take 2 b))
    (AreBytes-take 2 b h) (sym (from_le_bytes-take w16 2 b (omega arith) (omega arith)))

to_le_bytes-from_4 : (b : List ℕ) → 4 ≤ length b → AreBytes b
    → to_le_bytes w32 (from_le_bytes w32 b) ≡ take 4 b
to_le_bytes-from_4 b l h =
    le_bytes_4 (take 4 b) (from_le_bytes w32 b) (omega (arith, length-take 4 b))
    (AreBytes-take 4 b h) (sym (from_le_bytes-take w32 4 b (omega arith) (omega arith)))

to_le_bytes-from_8 : (b : List ℕ) → 8 ≤ length b → AreBytes b
    → to_le_bytes w64 (from_le_bytes w64 b) ≡ take 8 b
to_le_bytes-from_8 b l h =
    le_bytes_8 (take 8 b) (from_le_bytes w64 b) (omega (arith, length-take 8 b))
    (AreBytes-take 8 b h) (sym (from_le_bytes-take w64 8 b (omega arith) (omega arith)))

-- the bytes that hold the number of the first bytes are these
bytes_of-number : (k : Kind) (b : List ℕ) → width k ≤ length b → AreBytes b
    → bytes_of k (number k b) ≡ take (width k) b
bytes_of-number Truths (x ∷ b) l h = refl
bytes_of-number Truths [] l h = absurd (omega arith)
bytes_of-number I8 (x ∷ b) l h =
    let x' : x < 256 = h 0 in
    ap (to_le_bytes w8) (of_z-to_z w8 x x') ∙ ap (λ y. y ∷ []) (mod_small x x')
bytes_of-number I8 [] l h = absurd (omega arith)
bytes_of-number I16 b l h =
    ap (to_le_bytes w16) (of_z-to_z w16 (from_le_bytes w16 b) (from_le_bytes-below w16 b h)) ∙
    to_le_bytes-from_2 b l h
bytes_of-number I32 b l h =
    ap (to_le_bytes w32) (of_z-to_z w32 (from_le_bytes w32 b) (from_le_bytes-below w32 b h)) ∙
    to_le_bytes-from_4 b l h
bytes_of-number I64 b l h =
    ap (to_le_bytes w64) (of_z-to_z w64 (from_le_bytes w64 b) (from_le_bytes-below w64 b h)) ∙
    to_le_bytes-from_8 b l h
bytes_of-number U8 (x ∷ b) l h = refl
bytes_of-number U8 [] l h = absurd (omega arith)
bytes_of-number U16 b l h = to_le_bytes-from_2 b l h
bytes_of-number U32 b l h = to_le_bytes-from_4 b l h
bytes_of-number U64 b l h = to_le_bytes-from_8 b l h

-- the bytes that hold the numbers of bytes are these
pub flat_map-numbers : (k : Kind) (n : ℕ) (b : List ℕ) → n * width k ≡ length b → AreBytes b
    → flat_map (bytes_of k) (numbers k n b) ≡ b
flat_map-numbers k zero [] l h = refl
flat_map-numbers k zero (x ∷ b) l h = absurd (omega arith)
flat_map-numbers k (suc n) b l h =
    let w : ℕ = width k in
    let e : suc n * w ≡ w + n * w = omega arith in
    let first : bytes_of k (number k b) ≡ take w b = bytes_of-number k b (omega arith) h in
    let others : flat_map (bytes_of k) (numbers k n (drop w b)) ≡ drop w b = flat_map-numbers k n
    (drop w b) (omega (arith, length-drop w b)) (AreBytes-drop w b h) in
    rw (first, others) (take-append-drop w b)
