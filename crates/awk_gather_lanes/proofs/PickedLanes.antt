-- Lanes that a gather makes, by place.
use Rattle.std.proofs.Common.{◌≡◌, ℕ, suc, zero, ◌+◌, ◌-◌, ◌*◌, ◌/◌, ◌%◌, ◌<◌, ◌≤◌, [], ◌∷◌, ◌++◌}
use Rattle.std.proofs.Common.{map, arith, refl, ap, sym, ◌∙◌}
use Rattle.std.specs.Prelude.{ℤ, pos, negsuc, ◌≤ℤ◌, ◌<ℤ◌}
use Rattle.std.specs.List.{range_with_len}
use Rattle.std.proofs.lemmas.Int.{ints}
use Rattle.std.proofs.lemmas.List.FromFn.{map-range_with_len_more}
use Rattle.std.proofs.Math.Nat.{mod-lt, div-lt_iff_lt-mul}
use Rattle.std.proofs.lemmas.Nat.{row_fits, div-mul-add, mod-mul-add, div-add-mod'}
use Rattle.awk_lanes.specs.declared.kind.Kind.TheVariants.{I64}
use Rattle.awk_lanes.specs.Column.{Column}
use Rattle.awk_lanes.specs.Making.{Making, with_item}
use Rattle.awk_lanes.specs.Numbers.{nat_of}
use Rattle.awk_lanes.specs.Places.{at, place_at, size_of, IsOffsets, AreSpans, IsIndex}
use Rattle.awk_lanes.specs.Places.{IsOptionalIndex}
use Rattle.awk_lanes.proofs.PlaceLaws.{element-at}
use Rattle.awk_gather_lanes.specs.Lanes.{picked, nexts, block_at, blocks, AreBlocks}
use Rattle.awk_lanes.proofs.MadeLanes.{size-lane_of, at-lane_of}

pub size-picked : (c p : Column) → size_of (picked c p) ≡ size_of p
size-picked c p = size-lane_of c.kind (size_of p) (λ i. at c (place_at p i))

pub at-picked : (c p : Column) (j : ℕ) → j < size_of p → at (picked c p) j ≡ at c (place_at p j)
at-picked c p j h =
    at-lane_of c.kind (size_of p) (λ i. at c (place_at p i)) j h ∙ element-at c (place_at p j)

pub size-nexts : (c p : Column) → size_of (nexts c p) ≡ size_of p
size-nexts c p = size-lane_of c.kind (size_of p) (λ i. at c (place_at p i + 1))

pub at-nexts : (c p : Column) (j : ℕ) → j < size_of p → at (nexts c p) j ≡ at c (place_at p j + 1)
at-nexts c p j h =
    at-lane_of c.kind (size_of p) (λ i. at c (place_at p i + 1)) j h ∙ element-at c
    (place_at p j + 1)

-- places of fewer items
pub places_le : (m n : ℕ) (p : Column) → IsIndex p m → m ≤ n → IsIndex p n
places_le m n p h le = record {
  kind = h.kind;
  places = λ i k.
      ((h.places i k).0, omega (arith, (h.places i k).1));
}

-- numbers at places are places of what they index
pub index_picked : (c p : Column) (n : ℕ) → IsIndex c n → IsIndex p (size_of c)
    → IsIndex (picked c p) n
index_picked c p n v h = record {
  kind = v.kind;
  places = λ i k.
      let k' : i < size_of p = omega (arith, size-picked c p) in
      rw (at-picked c p i k') (v.places (place_at p i) (h.places i k').1);
}

pub optional_picked : (c p : Column) (n : ℕ) → IsOptionalIndex c n → IsIndex p (size_of c)
    → IsOptionalIndex (picked c p) n
optional_picked c p n v h = record {
  kind = v.kind;
  below = λ i k.
      let k' : i < size_of p = omega (arith, size-picked c p) in
      rw (at-picked c p i k') (v.below (place_at p i) (h.places i k').1);
}

pub spans_picked : (s t p : Column) (n : ℕ) → AreSpans s t n → IsIndex p (size_of s)
    → AreSpans (picked s p) (picked t p) n
spans_picked s t p n v h = record {
  start_kind = v.start_kind;
  stop_kind = v.stop_kind;
  same_size = size-picked s p ∙ sym (size-picked t p);
  ordered = λ i k.
      let k' : i < size_of p = omega (arith, size-picked s p) in
      rw (at-picked s p i k', at-picked t p i k') (v.ordered (place_at p i) (h.places i k').1);
}

pub spans_of_offsets : (o p : Column) (n : ℕ) → IsOffsets o n → IsIndex p (size_of o - 1)
    → AreSpans (picked o p) (nexts o p) n
spans_of_offsets o p n v h = record {
  start_kind = v.kind;
  stop_kind = v.kind;
  same_size = size-picked o p ∙ sym (size-nexts o p);
  ordered = λ i k.
      let k' : i < size_of p = omega (arith, size-picked o p) in
      rw (at-picked o p i k', at-nexts o p i k')
      (v.ordered (place_at p i) (omega (arith, (h.places i k').1)));
}

-- places as the index of an option
pub below_of_place : (z : ℤ) (n : ℕ) → pos 0 ≤ℤ z → nat_of z < n → z <ℤ pos n
below_of_place (pos m) n a b = omega (arith, ints)
below_of_place (negsuc m) n a b = omega (arith, ints)

pub optional_of_places : (p : Column) (n : ℕ) → p.kind ≡ I64 → IsIndex p n → IsOptionalIndex p n
optional_of_places p n e h = record {
  kind = rw e tt;
  below = λ i k. below_of_place (at p i) n
      (h.places i k).0 (h.places i k).1;
}

-- blocks of places
pub size-blocks : (size : ℕ) (p : Column) → size_of (blocks size p) ≡ size_of p * size
size-blocks size p = size-lane_of I64 (size_of p * size) (block_at size p)

pub at-blocks : (size : ℕ) (p : Column) (t : ℕ) → t < size_of p * size
    → at (blocks size p) t ≡ block_at size p t
at-blocks size p t h = at-lane_of I64 (size_of p * size) (block_at size p) t h

pub block_at-is : (size : ℕ) (p : Column) (i k : ℕ) → k < size
    → block_at size p (i * size + k) ≡ pos (place_at p i * size + k)
block_at-is size p i k h = rw (div-mul-add i size k h, mod-mul-add i size k h) refl

pub blocks_of_places : (n m size : ℕ) (p : Column) → IsIndex p n → n * size ≤ m → AreBlocks m size p
blocks_of_places n m size p h le = λ i k. (
  (h.places i k).0,
  omega
      (arith, row_fits (place_at p i) size n size (h.places i k).1 (omega arith)),
)

pub places_of_blocks : (m size : ℕ) (p : Column) → AreBlocks m size p → IsIndex (blocks size p) m
places_of_blocks m size p h = record {
  kind = tt;
  places = λ t k.
      let k' : t < size_of p * size = omega (arith, size-blocks size p) in
      rw (at-blocks size p t k') (omega (arith, ints), within t k');
}
  where
    within : (t : ℕ) → t < size_of p * size → place_at p (t / size) * size + t % size < m
    within t k =
        let q : t / size * size + t % size ≡ t = div-add-mod' t size in
        let s : 0 < size = positive size k in
        let r : t % size < size = mod-lt t s in
        let i : t / size < size_of p = (div-lt_iff_lt-mul s).1 k in
        omega (arith, (h (t / size) i).1)
      where
        positive : (size : ℕ) → t < size_of p * size → 0 < size
        positive zero l = absurd (omega arith)
        positive (suc n) l = omega arith

pub blocks_more : (size : ℕ) (p : Column) (i k j : ℕ) → k < size → i * size + k ≡ j
    → map (block_at size p) (range_with_len 0 (j + 1)) ≡ map (block_at size p) (range_with_len 0 j)
    ++ pos (place_at p i * size + k) ∷ []
blocks_more size p i k j h e =
    map-range_with_len_more (block_at size p) 0 j j (omega arith)
    ∙ ap (λ z. map (block_at size p) (range_with_len 0 j) ++ z ∷ [])
    (ap (block_at size p) (sym e) ∙ block_at-is size p i k h)

pub room_left : (size p i k : ℕ) → i < p → k < size → i * size + k < p * size
room_left size p i k h l = omega (arith, row_fits i size p size h (omega arith))

pub block_pushed : (size : ℕ) (p : Column) (i k a : ℕ) (z : ℤ) (old new : Making) → k < size
    → new ≡ with_item old z → z ≡ pos (a + k) → a ≡ place_at p i * size
    → old.items ≡ map (block_at size p) (range_with_len 0 (i * size + k))
    → new.items ≡ map (block_at size p) (range_with_len 0 (i * size + (k + 1)))
block_pushed size p i k a z old new h e f g o =
    let w : i * size + (k + 1) ≡ i * size + k + 1 = omega arith in
    rw (e, f, g, o, w) (sym (blocks_more size p i k (i * size + k) h refl))
