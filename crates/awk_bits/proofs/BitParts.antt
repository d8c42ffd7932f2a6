-- Bits by place, and the bits of a part.
use Rattle.std.proofs.Common.{◌≡◌, ℕ, ◌+◌, ◌-◌, ◌*◌, ◌/◌, ◌%◌, ◌<◌, ◌≤◌, List, length, drop, get_or}
use Rattle.std.proofs.Common.{refl, ap, sym, ◌∙◌, arith, Bool, false, get_or-take, get_or-drop}
use Rattle.std.proofs.Common.{length-take, length-drop}
use Rattle.std.specs.Prelude.{slice_range}
use Rattle.std.proofs.lemmas.List.{ext_get_or}
use Rattle.std.proofs.lemmas.List.FromFn.{length-map-range_with_len, get_or-map-range_with_len}
use Rattle.awk_bits.specs.Bits.{bit, bits}

pub length-bits : (o : Bool) (b : List ℕ) (first n : ℕ) → length (bits o b first n) ≡ n
length-bits o b first n = length-map-range_with_len (bit o b) first n

-- what is known of opened bits
pub opened_len : (o : Bool) (b : List ℕ) (first n : ℕ) (v : List Bool) → bits o b first n ≡ v
    → n ≡ length v
opened_len o b first n v e = sym (length-bits o b first n) ∙ ap (λ (xs : List Bool). length xs) e

-- the bit at a place is that many bits past the first
pub get_or-bits : (o : Bool) (b : List ℕ) (first n i : ℕ) → i < n
    → get_or (bits o b first n) i false ≡ bit o b (first + i)
get_or-bits o b first n i h = get_or-map-range_with_len (bit o b) first n i (first + i) false h refl

-- bits past whole bytes
bit-drop : (o : Bool) (b : List ℕ) (k i j : ℕ) → j ≡ 8 * k + i → bit o (drop k b) i ≡ bit o b j
bit-drop o b k i j e =
    let q : k + i / 8 ≡ j / 8 = omega arith in
    let r : i % 8 ≡ j % 8 = omega arith in
    rw (get_or-drop k b (i / 8) 0, q, r) refl

-- the bits of a part are the part of the bits
pub bits-slice_range : (o : Bool) (b : List ℕ) (first n lo hi : ℕ) → lo ≤ hi → hi ≤ n
    → bits o (drop ((first + lo) / 8) b) ((first + lo) % 8) (hi - lo) ≡ slice_range
    (bits o b first n) lo hi
bits-slice_range o b first n lo hi p q =
    let len : length (slice_range (bits o b first n) lo hi) ≡ hi - lo = omega (
      arith,
      length-take (hi - lo) (drop lo (bits o b first n)),
      length-drop lo
          (bits o b first n),
      length-bits o b first n,
    ) in
    ext_get_or false _ _ (length-bits o (drop ((first + lo) / 8) b) ((first + lo) % 8) (hi - lo) ∙
    sym len)
    (λ j h.
    let h' : j < hi - lo = omega (
      arith,
      length-bits o (drop ((first + lo) / 8) b)
          ((first + lo) % 8) (hi - lo),
    ) in
    get_or-bits o (drop ((first + lo) / 8) b) ((first + lo) % 8) (hi - lo) j h'
    ∙ bit-drop o b ((first + lo) / 8) ((first + lo) % 8 + j) (first + (lo + j)) (omega arith)
    ∙ sym (get_or-bits o b first n (lo + j) (omega arith))
    ∙ sym (get_or-drop lo (bits o b first n) j false)
    ∙ sym (get_or-take (hi - lo) (drop lo (bits o b first n)) j false h'))
