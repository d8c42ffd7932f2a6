-- Layouts that hold the items at places.
use Rattle.std.proofs.Common.{subst, length, ◌≡◌, ℕ, suc, zero, ◌+◌, ◌-◌, ◌*◌, ◌<◌, ◌≤◌, ◌^◌, List}
use Rattle.std.proofs.Common.{arith, refl, ap, sym, ◌∙◌}
use Rattle.std.specs.Prelude.{ℤ, pos, ◌≤ℤ◌, Bool}
use Rattle.std.proofs.lemmas.Nat.{row_fits}
use Rattle.awk_types.specs.DataType.{reg}
use Rattle.awk_types.specs.Value.{Value, list}
use Rattle.awk_lanes.specs.declared.kind.Kind.TheVariants.{I64}
use Rattle.awk_lanes.specs.Column.{Column}
use Rattle.awk_lanes.specs.Numbers.{nat_of}
use Rattle.awk_lanes.specs.Places.{at, place_at, size_of, option_place, AreSpans, IsIndex}
use Rattle.awk_lanes.specs.Places.{IsOptionalIndex}
use Rattle.awk_layout.specs.Layout.{Layout, Layouts, empty, flat, regular, lists, offset_lists}
use Rattle.awk_layout.specs.Layout.{indexed, optional, byte_masked, bit_masked, unmasked, union}
use Rattle.awk_layout.specs.Layout.{height}
use Rattle.awk_layout.specs.Valid.{len, IsValid, IsUnion}
use Rattle.awk_layout.specs.Laws.{len-fits}
use Rattle.awk_layout.specs.Item.{item, leaf_value, at_option, byte_shows, bit_shows}
use Rattle.awk_gather_lanes.specs.Lanes.{picked, nexts, blocks, AreBlocks}
use Rattle.awk_gather.specs.Peeled.{followed, byte_index, bit_index}
use Rattle.awk_gather.specs.Picked.{IsPicked}
use Rattle.awk_gather_lanes.proofs.PickedLanes.{size-picked, at-picked, at-nexts}
use Rattle.awk_gather_lanes.proofs.PickedLanes.{size-blocks, at-blocks, block_at-is, places_le}
use Rattle.awk_gather_lanes.proofs.PickedLanes.{index_picked, optional_picked, spans_picked}
use Rattle.awk_gather_lanes.proofs.PickedLanes.{spans_of_offsets, optional_of_places}
use Rattle.awk_gather_lanes.proofs.PickedLanes.{blocks_of_places, places_of_blocks}
use Rattle.awk_layout.proofs.Runs.{run-moved}
use Rattle.awk_gather.proofs.FollowedIndexes.{size-followed, at-followed, index_followed}
use Rattle.awk_gather.proofs.FollowedIndexes.{item_through, item_at_place, item_if_shown}
use Rattle.awk_gather.proofs.FollowedIndexes.{below_if_shown}

pub union_picked : (t j p : Column) (xs : Layouts) → IsUnion t j xs → IsIndex p (size_of t)
    → IsUnion (picked t p) (picked j p) xs
union_picked t j p xs v h = record {
  some = v.some;
  tag_kind = v.tag_kind;
  index_kind = v.index_kind;
  same_size = size-picked t p ∙ sym (size-picked j p);
  tags = λ i k.
      let k' : i < size_of p = omega (arith, size-picked t p) in
      rw (at-picked t p i k') (v.tags (place_at p i) (h.places i k').1);
  places = λ i k.
      let k' : i < size_of p = omega (arith, size-picked t p) in
      rw (at-picked t p i k', at-picked j p i k') (v.places (place_at p i) (h.places i k').1);
}

pub empty_picked : (p : Column) → IsIndex p 0 → IsPicked empty p empty
empty_picked p h = record {
  size = none (size_of p) refl;
  items = λ j k. refl;
  same_type = refl;
  held_within = omega arith;
  nodes_within = omega arith;
}
  where
    none : (n : ℕ) → size_of p ≡ n → 0 ≡ n
    none zero e = refl
    none (suc n) e = absurd (omega (arith, (h.places 0 (omega arith)).1))

pub flat_picked : (c p : Column) → IsPicked (flat c) p (flat (picked c p))
flat_picked c p = record {
  size = size-picked c p;
  items = λ j k. ap (leaf_value c.kind) (at-picked c p j k);
  same_type = refl;
  held_within = omega arith;
  nodes_within = omega arith;
}

pub lists_picked : (s t p : Column) (x : Layout)
    → IsPicked (lists s t x) p (lists (picked s p) (picked t p) x)
lists_picked s t p x = record {
  size = size-picked s p;
  items = λ j k. rw (at-picked s p j k, at-picked t p j k) refl;
  same_type = refl;
  held_within = omega arith;
  nodes_within = omega arith;
}

pub offsets_picked : (o p : Column) (x : Layout)
    → IsPicked (offset_lists o x) p (lists (picked o p) (nexts o p) x)
offsets_picked o p x = record {
  size = size-picked o p;
  items = λ j k. rw (at-picked o p j k, at-nexts o p j k) refl;
  same_type = refl;
  held_within = omega arith;
  nodes_within = omega arith;
}

pub indexed_picked : (i p : Column) (x : Layout) → IsPicked (indexed i x) p (indexed (picked i p) x)
indexed_picked i p x = record {
  size = size-picked i p;
  items = λ j k. rw (at-picked i p j k) refl;
  same_type = refl;
  held_within = omega arith;
  nodes_within = omega arith;
}

pub optional_picks : (i p : Column) (x : Layout)
    → IsPicked (optional i x) p (optional (picked i p) x)
optional_picks i p x = record {
  size = size-picked i p;
  items = λ j k. rw (at-picked i p j k) refl;
  same_type = refl;
  held_within = omega arith;
  nodes_within = omega arith;
}

-- through an index of places, where f tells the place of each item of h in g
picked_through : (f : ℕ → ℤ) (p : Column) (g h : ℕ → Value) (m j : ℕ)
    → ((k : ℕ) → k < m → h k ≡ at_option (option_place (f k)) g) → IsOptionalIndex p m
    → pos 0 ≤ℤ at p j → j < size_of p
    → at_option (option_place (at (followed f p) j)) g ≡ h (place_at p j)
picked_through f p g h m j e v a l =
    ap (λ z. at_option (option_place z) g) (at-followed f p j l) ∙ item_through f (at p j) g h m e
    (v.below j l) ∙ item_at_place (at p j) h a

pub bytes_picked : (m p : Column) (v : Bool) (x : Layout) → p.kind ≡ I64 → IsIndex p (size_of m)
    → IsPicked (byte_masked m v x) p (optional (followed (byte_index m v) p) x)
bytes_picked m p v x e h = record {
  size = size-followed (byte_index m v) p;
  items = λ j k. picked_through (byte_index m v) p (item x) (item (byte_masked m v x)) (size_of m) j
      (λ i l. sym (item_if_shown (byte_shows m v i) i (item x)))
      (optional_of_places p (size_of m) e h) (h.places j k).0 k;
  same_type = refl;
  held_within = omega arith;
  nodes_within = omega arith;
}

pub bits_picked : (m : List Bool) (p : Column) (v : Bool) (x : Layout) → p.kind ≡ I64
    → IsIndex p (length m) → IsPicked (bit_masked m v x) p (optional (followed (bit_index m v) p) x)
bits_picked m p v x e h = record {
  size = size-followed (bit_index m v) p;
  items = λ j k. picked_through (bit_index m v) p (item x) (item (bit_masked m v x)) (length m) j
      (λ i l. sym (item_if_shown (bit_shows m v i) i (item x)))
      (optional_of_places p (length m) e h) (h.places j k).0 k;
  same_type = refl;
  held_within = omega arith;
  nodes_within = omega arith;
}

pub unmasked_picked : (n : ℕ) (p : Column) (x : Layout) → IsIndex p n
    → IsPicked (unmasked n x) p (optional p x)
unmasked_picked n p x h = record {
  size = refl;
  items = λ j k. item_at_place (at p j) (item x) (h.places j k).0;
  same_type = refl;
  held_within = omega arith;
  nodes_within = omega arith;
}

pub union_picks : (t i p : Column) (xs : Layouts)
    → IsPicked (union t i xs) p (union (picked t p) (picked i p) xs)
union_picks t i p xs = record {
  size = size-picked t p;
  items = λ j k. rw (at-picked t p j k, at-picked i p j k) refl;
  same_type = refl;
  held_within = omega arith;
  nodes_within = omega arith;
}

pub regular_picked : (size n : ℕ) (p : Column) (x r : Layout) → IsPicked x (blocks size p) r
    → IsPicked (regular size n x) p (regular size (size_of p) r)
regular_picked size n p x r h = record {
  size = refl;
  items = λ j k. ap list (run-moved (item r) (item x) (j * size) (place_at p j * size) size (λ i l.
      let w : j * size + size ≤ size_of p * size = row_fits j size (size_of p) size k
      (omega arith) in
      let m : j * size + i < size_of p * size = omega arith in
      let m' : j * size + i < size_of (blocks size p) = omega (arith, size-blocks size p) in
      let e : place_at (blocks size p) (j * size + i) ≡ place_at p j * size + i = ap nat_of
      (at-blocks size p (j * size + i) m ∙ block_at-is size p j i l) in
      h.items (j * size + i) m' ∙ ap (item x) e));
  same_type = ap (reg size) h.same_type;
  held_within = omega (arith, h.held_within);
  nodes_within = omega (arith, h.nodes_within);
}

-- what a call requires of the lanes that calls made
pub spans_made : (s t p a b : Column) (x y : Layout) → IsValid (lists s t x)
    → IsIndex p (size_of s) → a ≡ picked s p → b ≡ picked t p → y ≡ x → AreSpans a b (len y)
spans_made s t p a b x y v h e f g = rw (e, f, g) (spans_picked s t p (len x) v.1 h)

pub next_made : (o p a b : Column) (x y : Layout) → IsValid (offset_lists o x)
    → IsIndex p (size_of o - 1) → a ≡ picked o p → b ≡ nexts o p → y ≡ x → AreSpans a b (len y)
next_made o p a b x y v h e f g = rw (e, f, g) (spans_of_offsets o p (len x) v.1 h)

pub bytes_made : (m p a : Column) (w : Bool) (x y : Layout) → IsValid (byte_masked m w x)
    → p.kind ≡ I64 → IsIndex p (size_of m) → a ≡ followed (byte_index m w) p → y ≡ x
    → IsOptionalIndex a (len y)
bytes_made m p a w x y v k h e g =
    rw (e, g) (index_followed (byte_index m w) p (size_of m) (len x)
    (λ i l. below_if_shown (byte_shows m w i) i (size_of m) (len x) l v.1.reach)
    (optional_of_places p (size_of m) k h))

pub bits_made : (m : List Bool) (p a : Column) (w : Bool) (x y : Layout)
    → IsValid (bit_masked m w x) → p.kind ≡ I64 → IsIndex p (length m)
    → a ≡ followed (bit_index m w) p → y ≡ x → IsOptionalIndex a (len y)
bits_made m p a w x y v k h e g =
    rw (e, g) (index_followed (bit_index m w) p (length m) (len x)
    (λ i l. below_if_shown (bit_shows m w i) i (length m) (len x) l v.1)
    (optional_of_places p (length m) k h))

-- what a call made of the lanes that calls made
pub lists_of : (s t p a b : Column) (x y z : Layout) → z ≡ lists a b y → y ≡ x → a ≡ picked s p
    → b ≡ picked t p → IsPicked (lists s t x) p z
lists_of s t p a b x y z e f g h = rw (e, f, g, h) (lists_picked s t p x)

pub offsets_of : (o p a b : Column) (x y z : Layout) → z ≡ lists a b y → y ≡ x → a ≡ picked o p
    → b ≡ nexts o p → IsPicked (offset_lists o x) p z
offsets_of o p a b x y z e f g h = rw (e, f, g, h) (offsets_picked o p x)

pub indexed_of : (i p a : Column) (x y z : Layout) → z ≡ indexed a y → y ≡ x → a ≡ picked i p
    → IsPicked (indexed i x) p z
indexed_of i p a x y z e f g = rw (e, f, g) (indexed_picked i p x)

pub bytes_of : (m p a : Column) (v : Bool) (x y z : Layout) → p.kind ≡ I64 → IsIndex p (size_of m)
    → z ≡ optional a y → y ≡ x → a ≡ followed (byte_index m v) p → IsPicked (byte_masked m v x) p z
bytes_of m p a v x y z k h e f g = rw (e, f, g) (bytes_picked m p v x k h)

pub bits_of : (m : List Bool) (p a : Column) (v : Bool) (x y z : Layout) → p.kind ≡ I64
    → IsIndex p (length m) → z ≡ optional a y → y ≡ x → a ≡ followed (bit_index m v) p
    → IsPicked (bit_masked m v x) p z
bits_of m p a v x y z k h e f g = rw (e, f, g) (bits_picked m p v x k h)

-- the recursion into a regular list
pub regular_inner : (size n : ℕ) (x y : Layout) (p q : Column) → regular size n y ≡ x → IsValid x
    → IsIndex p (len x) → q ≡ blocks size p
    → (height y < height x) × IsIndex q (len y) × (q.kind ≡ I64)
regular_inner size n x y p q e v h f =
    let v' : IsValid (regular size n y) = subst IsValid (sym e) v in
    let h' : IsIndex p n = subst (λ z. IsIndex p (len z)) (sym e) h in
    rw (← e, f) (
      omega arith,
      places_of_blocks (len y) size p
          (blocks_of_places n (len y) size p h' v'.1),
      refl,
    )

pub regular_blocks : (size n : ℕ) (x y : Layout) (p : Column) → regular size n y ≡ x → IsValid x
    → IsIndex p (len x) → AreBlocks (2 ^ 63 - 1) size p
regular_blocks size n x y p e v h =
    let v' : IsValid (regular size n y) = subst IsValid (sym e) v in
    let h' : IsIndex p n = subst (λ z. IsIndex p (len z)) (sym e) h in
    let f = len-fits y v'.2 in
    blocks_of_places n (2 ^ 63 - 1) size p h' (omega (arith, v'.1))

pub regular_of : (size n m : ℕ) (x y r s z : Layout) (p q : Column) → regular size n y ≡ x
    → z ≡ regular size m s → s ≡ r → m ≡ size_of p → q ≡ blocks size p → IsPicked y q r
    → IsPicked x p z
regular_of size n m x y r s z p q e f i g k h =
    let h' : IsPicked y (blocks size p) r = subst (λ c. IsPicked y c r) k h in
    rw (← e, f, i, g) (regular_picked size n p y r h')

pub regular_reach : (size m : ℕ) (y r s : Layout) (p q : Column) → s ≡ r → m ≡ size_of p
    → q ≡ blocks size p → IsPicked y q r → m * size ≤ len s
regular_reach size m y r s p q g i k h =
    let e : size_of q ≡ size_of p * size = ap size_of k ∙ size-blocks size p in
    rw (g, i, h.size, e) (omega arith)

pub ruleset picks = (
  empty_picked,
  flat_picked,
  lists_picked,
  offsets_picked,
  indexed_picked,
  optional_picks,
  bytes_picked,
  bits_picked,
  unmasked_picked,
  union_picks,
  size-picked,
  size-followed,
  places_le,
  index_picked,
  optional_picked,
  union_picked,
  optional_of_places,
)
