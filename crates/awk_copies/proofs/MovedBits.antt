-- Bits in bytes of eight.
use Rattle.std.proofs.Common.{◌≡◌, ◌==◌, ℕ, zero, suc, ◌+◌, ◌-◌, ◌*◌, ◌/◌, ◌%◌, ◌^◌, ◌<◌, ◌≤◌, List}
use Rattle.std.proofs.Common.{Bool, true, false, length, map, get_or, refl, ap, sym, ◌∙◌}
use Rattle.std.proofs.Common.{arith}
use Rattle.std.specs.List.{range_with_len}
use Rattle.std.proofs.lemmas.List.{ext_get_or}
use Rattle.std.proofs.lemmas.List.FromFn.{get_or-map-range_with_len, length-map-range_with_len}
use Rattle.awk_bits.specs.Bits.{bit, bits}
use Rattle.awk_bits.proofs.BitParts.{length-bits, get_or-bits}
use Rattle.awk_copies.specs.Moved.{one_if, eight}

at_most_one : (b : Bool) → one_if b ≤ 1
at_most_one true = omega arith
at_most_one false = omega arith

is_one : (b : Bool) → (one_if b == 1) ≡ b
is_one true = refl
is_one false = refl

abbrev byte : (a b c d e f g h : ℕ) → ℕ
byte a b c d e f g h = 16 * (8 * a + 4 * b + 2 * c + d) + (8 * e + 4 * f + 2 * g + h)

module _ (a b c d e f g h : ℕ) (pa : a ≤ 1) (pb : b ≤ 1) (pc : c ≤ 1) (pd : d ≤ 1) (pe : e ≤ 1)
    (pf : f ≤ 1) (pg : g ≤ 1) (ph : h ≤ 1) where
  digit_0 : (byte a b c d e f g h / 128) % 2 ≡ a
  digit_0 = omega (arith, pa, pb, pc, pd, pe, pf, pg, ph)

  digit_1 : (byte a b c d e f g h / 64) % 2 ≡ b
  digit_1 = omega (arith, pa, pb, pc, pd, pe, pf, pg, ph)

  digit_2 : (byte a b c d e f g h / 32) % 2 ≡ c
  digit_2 = omega (arith, pa, pb, pc, pd, pe, pf, pg, ph)

  digit_3 : (byte a b c d e f g h / 16) % 2 ≡ d
  digit_3 = omega (arith, pa, pb, pc, pd, pe, pf, pg, ph)

  digit_4 : (byte a b c d e f g h / 8) % 2 ≡ e
  digit_4 = omega (arith, pa, pb, pc, pd, pe, pf, pg, ph)

  digit_5 : (byte a b c d e f g h / 4) % 2 ≡ f
  digit_5 = omega (arith, pa, pb, pc, pd, pe, pf, pg, ph)

  digit_6 : (byte a b c d e f g h / 2) % 2 ≡ g
  digit_6 = omega (arith, pa, pb, pc, pd, pe, pf, pg, ph)

  digit_7 : (byte a b c d e f g h / 1) % 2 ≡ h
  digit_7 = omega (arith, pa, pb, pc, pd, pe, pf, pg, ph)

-- a bit of a byte
module _ (bs : List Bool) (s : ℕ) where
  abbrev at : ℕ → ℕ
  at i = one_if (get_or bs (s + i) false)

  most : (i : ℕ) → at i ≤ 1
  most i = at_most_one (get_or bs (s + i) false)

  first_is : at 0 ≡ one_if (get_or bs s false)
  first_is = ap (λ i. one_if (get_or bs i false)) (omega arith)

  abbrev whole : ℕ
  whole = byte (one_if (get_or bs s false)) (at 1) (at 2) (at 3) (at 4) (at 5) (at 6) (at 7)

  digit : (r : ℕ) → r < 8 → (whole / 2 ^ (7 - r)) % 2 ≡ at r
  digit zero p =
      digit_0 (one_if (get_or bs s false)) (at 1) (at 2) (at 3) (at 4) (at 5) (at 6) (at 7)
      (at_most_one (get_or bs s false)) (most 1) (most 2) (most 3) (most 4) (most 5) (most 6)
      (most 7) ∙ sym first_is
  digit (suc zero) p =
      digit_1 (one_if (get_or bs s false)) (at 1) (at 2) (at 3) (at 4) (at 5) (at 6) (at 7)
      (at_most_one (get_or bs s false)) (most 1) (most 2) (most 3) (most 4) (most 5) (most 6)
      (most 7)
  digit (suc (suc zero)) p =
      digit_2 (one_if (get_or bs s false)) (at 1) (at 2) (at 3) (at 4) (at 5) (at 6) (at 7)
      (at_most_one (get_or bs s false)) (most 1) (most 2) (most 3) (most 4) (most 5) (most 6)
      (most 7)
  digit (suc (suc (suc zero))) p =
      digit_3 (one_if (get_or bs s false)) (at 1) (at 2) (at 3) (at 4) (at 5) (at 6) (at 7)
      (at_most_one (get_or bs s false)) (most 1) (most 2) (most 3) (most 4) (most 5) (most 6)
      (most 7)
  digit (suc (suc (suc (suc zero)))) p =
      digit_4 (one_if (get_or bs s false)) (at 1) (at 2) (at 3) (at 4) (at 5) (at 6) (at 7)
      (at_most_one (get_or bs s false)) (most 1) (most 2) (most 3) (most 4) (most 5) (most 6)
      (most 7)
  digit (suc (suc (suc (suc (suc zero))))) p =
      digit_5 (one_if (get_or bs s false)) (at 1) (at 2) (at 3) (at 4) (at 5) (at 6) (at 7)
      (at_most_one (get_or bs s false)) (most 1) (most 2) (most 3) (most 4) (most 5) (most 6)
      (most 7)
  digit (suc (suc (suc (suc (suc (suc zero)))))) p =
      digit_6 (one_if (get_or bs s false)) (at 1) (at 2) (at 3) (at 4) (at 5) (at 6) (at 7)
      (at_most_one (get_or bs s false)) (most 1) (most 2) (most 3) (most 4) (most 5) (most 6)
      (most 7)
  digit (suc (suc (suc (suc (suc (suc (suc zero))))))) p =
      digit_7 (one_if (get_or bs s false)) (at 1) (at 2) (at 3) (at 4) (at 5) (at 6) (at 7)
      (at_most_one (get_or bs s false)) (most 1) (most 2) (most 3) (most 4) (most 5) (most 6)
      (most 7)
  digit (suc (suc (suc (suc (suc (suc (suc (suc r)))))))) p = absurd (omega (arith, p))

-- the bits of the bytes
pub bits_same : (bs : List Bool) (bytes : List ℕ) (n m : ℕ) → n ≡ length bs → m ≡ n / 8 + 1
    → bytes ≡ map (λ k. eight bs (8 * k)) (range_with_len 0 m) → bits false bytes 0 n ≡ bs
bits_same bs bytes n m en em e =
    ext_get_or false _ _ (length-bits false bytes 0 n ∙ en)
    (λ i p.
    let q : i < n = omega (arith, p, length-bits false bytes 0 n) in
    let r : i % 8 < 8 = omega arith in
    let byte_is : get_or bytes (i / 8) 0 ≡ eight bs (8 * (i / 8)) =
    ap (λ b. get_or b (i / 8) 0) e
    ∙ get_or-map-range_with_len (λ k. eight bs (8 * k)) 0 m (i / 8) (i / 8) 0
    (omega (arith, q, em)) (omega arith) in
    let from_0 : 0 + i ≡ i = omega arith in
    get_or-bits false bytes 0 n i q
    ∙ ap (bit false bytes) from_0
    ∙ ap (λ w. (w / 2 ^ (7 - i % 8)) % 2 == 1) byte_is
    ∙ ap (λ w. w == 1) (digit bs (8 * (i / 8)) (i % 8) r)
    ∙ is_one (get_or bs (8 * (i / 8) + i % 8) false)
    ∙ ap (λ k. get_or bs k false) (omega arith))

pub bytes_length : (bs : List Bool) (bytes : List ℕ) (m : ℕ)
    → bytes ≡ map (λ k. eight bs (8 * k)) (range_with_len 0 m) → length bytes ≡ m
bytes_length bs bytes m e = ap length e ∙ length-map-range_with_len (λ k. eight bs (8 * k)) 0 m
