-- Options and indexes are taken off.
use Rattle.std.proofs.Common.{◌≡◌, ℕ, ◌+◌, ◌<◌, ◌≤◌, length, arith, refl, ap, sym, ◌∙◌, subst}
use Rattle.std.specs.Prelude.{ℤ, pos, ◌≤ℤ◌, Bool, false, List, Option, Some, None}
use Rattle.std.proofs.lemmas.Int.{ints}
use Rattle.std.proofs.lemmas.Bool.{true≢false}
use Rattle.awk_types.specs.DataType.{DataType, unknown, leaf, var, reg, rec, tup, opt, uni}
use Rattle.awk_types.specs.Simple.{present, is_option, option_of}
use Rattle.awk_types.specs.Value.{Value}
use Rattle.awk_lanes.specs.declared.kind.Kind.TheVariants.{I64}
use Rattle.awk_lanes.specs.Column.{Column}
use Rattle.awk_lanes.specs.Places.{at, size_of, option_place, option_place_at, IsOptionalIndex}
use Rattle.awk_layout.specs.Layout.{Layout, indexed, optional, byte_masked, bit_masked, unmasked}
use Rattle.awk_layout.specs.Layout.{height, held}
use Rattle.awk_layout.specs.Valid.{len, IsValid}
use Rattle.awk_layout.specs.Item.{at_option, byte_shows, bit_shows}
use Rattle.awk_layout.specs.Typing.{array_type}
use Rattle.awk_gather.specs.Arrays.{array_item}
use Rattle.awk_gather.specs.Peeled.{followed, byte_index, bit_index, IsBare, IsPeeled}
use Rattle.awk_gather.proofs.OptionItems.{item-optional, item-byte_masked, item-bit_masked}
use Rattle.awk_gather.proofs.OptionItems.{item-unmasked}
use Rattle.awk_gather_lanes.proofs.PickedLanes.{below_of_place}
use Rattle.awk_gather.proofs.FollowedIndexes.{size-followed, at-followed, index_followed}
use Rattle.awk_gather.proofs.FollowedIndexes.{item_through, through_pos, item_at_place}
use Rattle.awk_gather.proofs.FollowedIndexes.{item_if_shown, below_if_shown}

-- one layer is taken off
pub peel_step : (x y z : Layout) (f : ℕ → ℤ) (i k : Column)
    → ((j : ℕ) → j < len x → array_item x j ≡ at_option (option_place (f j)) (array_item y))
    → (is_option (array_type x) ≡ false → (is_option (array_type y) ≡ false) ×
    ((j : ℕ) → j < len x → pos 0 ≤ℤ f j)) → IsOptionalIndex i (len x) → present (array_type y) ≡
    present (array_type x) → held y ≤ held x → height y ≤ height x → IsPeeled y (followed f i) k z →
    IsPeeled x i k z
peel_step x y z f i k e o v t w u h = record {
  size = h.size ∙ size-followed f i;
  kind = h.kind;
  index = h.index;
  items = λ j l.
      let l' : j < size_of (followed f i) = omega (arith, size-followed f i) in
      h.items j l' ∙ ap (λ q. at_option (option_place q) (array_item y)) (at-followed f i j l) ∙
      item_through f (at i j) (array_item y) (array_item x) (len x) e (v.below j l);
  bare = h.bare;
  same_present = h.same_present ∙ t;
  stays = λ q j l a.
      let l' : j < size_of (followed f i) = omega (arith, size-followed f i) in
      h.stays (o q).0 j l' (rw (at-followed f i j l)
      (through_pos f (at i j) (len x) (v.below j l) a (o q).1));
  held_within = omega (arith, h.held_within);
  height_within = omega (arith, h.height_within);
}

pub peel_bare : (x : Layout) (i : Column) → i.kind ≡ I64 → IsOptionalIndex i (len x) → IsBare x
    → IsPeeled x i i x
peel_bare x i e v b = record {
  size = refl;
  kind = e;
  index = v;
  items = λ j k. refl;
  bare = b;
  same_present = refl;
  stays = λ q j l a. a;
  held_within = omega arith;
  height_within = omega arith;
}

present-option_of : (t : DataType) → present t ≡ present (option_of t)
present-option_of unknown = refl
present-option_of (leaf p) = refl
present-option_of (var t) = refl
present-option_of (reg n t) = refl
present-option_of (rec ns ts) = refl
present-option_of (tup ts) = refl
present-option_of (opt t) = refl
present-option_of (uni ts) = refl

held_more : (y : Layout) (n : ℕ) → held y ≤ held y + n
held_more y n = omega arith

-- over each class
pub follow_optional : (c i : Column) (x y : Layout) → optional c y ≡ x → IsValid x
    → IsOptionalIndex i (len x)
    → IsOptionalIndex (followed (at c) i) (len y) × (height y < height x)
follow_optional c i x y e v h =
    let v' : IsValid (optional c y) = subst IsValid (sym e) v in
    let h' : IsOptionalIndex i (size_of c) = subst (λ q. IsOptionalIndex i (len q)) (sym e) h in
    rw (← e) (index_followed (at c) i (size_of c) (len y) v'.1.below h', omega arith)

pub peel_optional : (c i k : Column) (x y z : Layout) → optional c y ≡ x
    → IsOptionalIndex i (len x) → IsPeeled y (followed (at c) i) k z → IsPeeled x i k z
peel_optional c i k x y z e v h =
    let v' : IsOptionalIndex i (size_of c) = subst (λ q. IsOptionalIndex i (len q)) (sym e) v in
    rw (← e) (peel_step (optional c y) y z (at c) i k (λ j l. item-optional c y j)
    (λ q. absurd (true≢false q)) v' (present-option_of (array_type y)) (omega arith)
    (omega arith) h)

pub follow_indexed : (c i : Column) (x y : Layout) → indexed c y ≡ x → IsValid x
    → IsOptionalIndex i (len x)
    → IsOptionalIndex (followed (at c) i) (len y) × (height y < height x)
follow_indexed c i x y e v h =
    let v' : IsValid (indexed c y) = subst IsValid (sym e) v in
    let h' : IsOptionalIndex i (size_of c) = subst (λ q. IsOptionalIndex i (len q)) (sym e) h in
    rw (← e) (
      index_followed (at c) i (size_of c) (len y)
          (λ k l. below_of_place (at c k) (len y) (v'.1.places k l).0 (v'.1.places k l).1) h',
      omega
          arith,
    )

pub peel_indexed : (c i k : Column) (x y z : Layout) → indexed c y ≡ x → IsValid x
    → IsOptionalIndex i (len x) → IsPeeled y (followed (at c) i) k z → IsPeeled x i k z
peel_indexed c i k x y z e w v h =
    let w' : IsValid (indexed c y) = subst IsValid (sym e) w in
    let v' : IsOptionalIndex i (size_of c) = subst (λ q. IsOptionalIndex i (len q)) (sym e) v in
    rw (← e) (peel_step (indexed c y) y z (at c) i k
    (λ j l. sym (item_at_place (at c j) (array_item y) (w'.1.places j l).0))
    (λ q. (q, λ j l. (w'.1.places j l).0)) v' refl (held_more y _) (omega arith) h)

pub follow_byte_masked : (m : Column) (b : Bool) (i : Column) (x y : Layout)
    → byte_masked m b y ≡ x → IsValid x → IsOptionalIndex i (len x)
    → IsOptionalIndex (followed (byte_index m b) i) (len y) × (height y < height x)
follow_byte_masked m b i x y e v h =
    let v' : IsValid (byte_masked m b y) = subst IsValid (sym e) v in
    let h' : IsOptionalIndex i (size_of m) = subst (λ q. IsOptionalIndex i (len q)) (sym e) h in
    rw (← e) (
      index_followed (byte_index m b) i (size_of m) (len y)
          (λ k l. below_if_shown (byte_shows m b k) k (size_of m) (len y) l v'.1.reach) h',
      omega
          arith,
    )

pub peel_byte_masked : (m : Column) (b : Bool) (i k : Column) (x y z : Layout)
    → byte_masked m b y ≡ x → IsOptionalIndex i (len x)
    → IsPeeled y (followed (byte_index m b) i) k z → IsPeeled x i k z
peel_byte_masked m b i k x y z e v h =
    let v' : IsOptionalIndex i (size_of m) = subst (λ q. IsOptionalIndex i (len q)) (sym e) v in
    rw (← e) (peel_step (byte_masked m b y) y z (byte_index m b) i k
    (λ j l. item-byte_masked m b y j ∙ sym (item_if_shown (byte_shows m b j) j (array_item y)))
    (λ q. absurd (true≢false q)) v' (present-option_of (array_type y)) (omega arith)
    (omega arith) h)

pub follow_bit_masked : (m : List Bool) (b : Bool) (i : Column) (x y : Layout)
    → bit_masked m b y ≡ x → IsValid x → IsOptionalIndex i (len x)
    → IsOptionalIndex (followed (bit_index m b) i) (len y) × (height y < height x)
follow_bit_masked m b i x y e v h =
    let v' : IsValid (bit_masked m b y) = subst IsValid (sym e) v in
    let h' : IsOptionalIndex i (length m) = subst (λ q. IsOptionalIndex i (len q)) (sym e) h in
    rw (← e) (
      index_followed (bit_index m b) i (length m) (len y)
          (λ k l. below_if_shown (bit_shows m b k) k (length m) (len y) l v'.1) h',
      omega arith,
    )

pub peel_bit_masked : (m : List Bool) (b : Bool) (i k : Column) (x y z : Layout)
    → bit_masked m b y ≡ x → IsOptionalIndex i (len x)
    → IsPeeled y (followed (bit_index m b) i) k z → IsPeeled x i k z
peel_bit_masked m b i k x y z e v h =
    let v' : IsOptionalIndex i (length m) = subst (λ q. IsOptionalIndex i (len q)) (sym e) v in
    rw (← e) (peel_step (bit_masked m b y) y z (bit_index m b) i k
    (λ j l. item-bit_masked m b y j ∙ sym (item_if_shown (bit_shows m b j) j (array_item y)))
    (λ q. absurd (true≢false q)) v' (present-option_of (array_type y)) (omega arith)
    (omega arith) h)

pub follow_unmasked : (n : ℕ) (i : Column) (x y : Layout) → unmasked n y ≡ x → IsValid x
    → IsOptionalIndex i (len x) → IsOptionalIndex i (len y) × (height y < height x)
follow_unmasked n i x y e v h =
    let v' : IsValid (unmasked n y) = subst IsValid (sym e) v in
    let h' : IsOptionalIndex i n = subst (λ q. IsOptionalIndex i (len q)) (sym e) h in
    rw (← e) (
      record { kind = h'.kind; below = λ j k. omega (arith, ints, h'.below j k, v'.1) },
      omega arith,
    )

pub option_same : (o : Option ℕ) (f g : ℕ → Value) → ((k : ℕ) → f k ≡ g k)
    → at_option o f ≡ at_option o g
option_same None f g e = refl
option_same (Some n) f g e = e n

pub peel_unmasked : (n : ℕ) (i k : Column) (x y z : Layout) → unmasked n y ≡ x → IsPeeled y i k z
    → IsPeeled x i k z
peel_unmasked n i k x y z e h = rw (← e) (record {
  size = h.size;
  kind = h.kind;
  index = h.index;
  items = λ j l. h.items j l ∙ option_same (option_place_at i j) (array_item y)
      (array_item (unmasked n y)) (λ m. sym (item-unmasked n y m));
  bare = h.bare;
  same_present = h.same_present ∙ present-option_of (array_type y);
  stays = λ q. absurd (true≢false q);
  held_within = omega (arith, h.held_within);
  height_within = omega (arith, h.height_within);
})

-- the same, of the lane that a call made
pub made : (f : ℕ → ℤ) (i q : Column) (x y : Layout) → q ≡ followed f i
    → IsOptionalIndex (followed f i) (len y) × (height y < height x)
    → IsOptionalIndex q (len y) × (height y < height x) × (q.kind ≡ I64)
made f i q x y e h = rw e (h.0, h.1, refl)

pub at_made : (f : ℕ → ℤ) (i q k : Column) (y z : Layout) → q ≡ followed f i → IsPeeled y q k z
    → IsPeeled y (followed f i) k z
at_made f i q k y z e h = subst (λ p. IsPeeled y p k z) e h

pub ruleset unmasked_peels = (follow_unmasked, peel_unmasked)
