-- Unions over the items of each alternative alone.
use Rattle.std.proofs.Common.{◌≡◌, ℕ, suc, zero, ◌+◌, ◌<◌, List, [], ◌∷◌, ◌++◌, map, length, get_or}
use Rattle.std.proofs.Common.{take, slice_get, Some, arith, refl, ap, ap₂, sym, ◌∙◌, subst, add-one}
use Rattle.std.specs.Prelude.{ℤ, pos, negsuc, ◌≤ℤ◌, Bool, true, false, ◌==◌, if◌then◌else◌}
use Rattle.std.specs.List.{range_with_len, flat_map}
use Rattle.std.proofs.lemmas.Int.{ints}
use Rattle.std.proofs.lemmas.List.{ext_get_or, length-map}
use Rattle.std.proofs.lemmas.List.FromFn.{length-map-range_with_len, get_or-map-range_with_len}
use Rattle.std.proofs.lemmas.List.FromFn.{map-range_with_len_more}
use Rattle.awk_types.specs.DataType.{uni, types_from}
use Rattle.awk_types.specs.Value.{Value, null, alt}
use Rattle.awk_lanes.specs.declared.kind.Kind.{Kind}
use Rattle.awk_lanes.specs.declared.kind.Kind.TheVariants.{I8, I64}
use Rattle.awk_lanes.specs.Column.{Column}
use Rattle.awk_lanes.specs.Numbers.{element, nat_of}
use Rattle.awk_lanes.specs.Places.{at, place_at, size_of}
use Rattle.awk_layout.specs.Layout.{Layout, layouts_from, count, union}
use Rattle.awk_layout.specs.Laws.{len-fits}
use Rattle.awk_layout.specs.Valid.{len, len_of, IsValid, AllValid}
use Rattle.awk_layout.specs.Place.{nth}
use Rattle.awk_layout.specs.Typing.{array_type, array_items}
use Rattle.awk_gather.specs.Arrays.{array_item}
use Rattle.awk_columns.specs.Columns.{tag_of, alternative_values, tags, one_more, union_index}
use Rattle.awk_counts.specs.Counted.{first_of, tagged_at, counted_tag, counted_tags, AreTagged}
use Rattle.awk_counts.specs.Counted.{AreBelow}
use Rattle.awk_open.specs.InOrder.{IsInOrder}
use Rattle.awk_columns.specs.Parts.{AreAlternatives}
use Rattle.awk_open.specs.Opened.{IsOpened}
use Rattle.awk_columns.specs.Reached.{IsReached, AreReached}
use Rattle.awk_open.specs.declared.opening.Opened.TheVariants.{Union}
use Rattle.awk_counts.proofs.FirstPlaces.{length-first_of, first_of-room}
use Rattle.awk_open.proofs.LayoutParts.{len_of-nth}
use Rattle.awk_lanes.proofs.MadeLanes.{size-lane_of, at-lane_of}
use Rattle.awk_columns.proofs.ArrayLaws.{array_items-at}
use Rattle.awk_base.proofs.Ranges.{map-in}
use Rattle.awk_layout.proofs.LayoutLists.{len_of-get}
use Rattle.awk_columns.proofs.ReachedContents.{below-first_of, first_of-at, reached-len}
use Rattle.awk_columns.proofs.ReachedContents.{reached-item}

-- ---- values of a union

abbrev tagged_item : Column → Column → (ℕ → ℕ → Value) → ℕ → Value
tagged_item t j g i = alt (place_at t i) (g (place_at t i) (place_at j i))

-- what one item gives to an alternative
given_one : (same : Bool) (a b k : ℕ) (g : ℕ → ℕ → Value) (vs : List Value) (ks : List ℕ)
    → (a == b) ≡ same → vs ≡ map (g a) ks
    → (if a == b then g b k ∷ [] else []) ++ vs ≡ map (g a) ((if a == b then k ∷ [] else []) ++ ks)
given_one true a b k g vs ks e h =
    let d : a ≡ b = grind arith in
    rw e (ap₂ (λ w ws. w ∷ ws) (ap (λ c. g c k) (sym d)) h)
given_one false a b k g vs ks e h = rw e h

given_from : (t j : Column) (g : ℕ → ℕ → Value) (a b n : ℕ)
    → alternative_values a (map (tagged_item t j g) (range_with_len b n)) ≡ map (g a)
    (flat_map (tagged_at t j a) (range_with_len b n))
given_from t j g a b zero = refl
given_from t j g a b (suc n) =
    given_one _ a (place_at t b) (place_at j b) g _ _ refl (given_from t j g a (b + 1) n)

-- ---- counts

after : (ℕ → ℕ) → List Value → ℕ → ℕ
after c [] = c
after c (v ∷ vs) = after (one_more (tag_of v) c) vs

after-append : (c : ℕ → ℕ) (vs : List Value) (v : Value) (a : ℕ)
    → after c (vs ++ v ∷ []) a ≡ one_more (tag_of v) (after c vs) a
unfolding after
after-append c [] v a = refl
after-append c (w ∷ vs) v a = after-append (one_more (tag_of w) c) vs v a

index-append : (c : ℕ → ℕ) (vs : List Value) (v : Value)
    → union_index c (vs ++ v ∷ []) ≡ union_index c vs ++ pos (after c vs (tag_of v)) ∷ []
unfolding after
index-append c [] v = refl
index-append c (w ∷ vs) v =
    ap (λ zs. pos (c (tag_of w)) ∷ zs) (index-append (one_more (tag_of w) c) vs v)

counted_one : (same : Bool) (a b k c : ℕ) → (a == b) ≡ same
    → (if a == b then suc c else c) ≡ c + length (if a == b then k ∷ [] else [])
counted_one true a b k c e = rw e (omega arith)
counted_one false a b k c e = rw e (omega arith)

after-is : (t j : Column) (g : ℕ → ℕ → Value) (n a : ℕ)
    → after (λ k. 0) (map (tagged_item t j g) (range_with_len 0 n)) a ≡ length
    (first_of (tagged_at t j a) n)
unfolding after
after-is t j g zero a = refl
after-is t j g (suc n) a =
    let e : n + 1 ≡ suc n = omega arith in
    let vs = map (tagged_item t j g) (range_with_len 0 n) in
    subst (λ w. after (λ k. 0) (map (tagged_item t j g) (range_with_len 0 w)) a ≡ length
    (first_of (tagged_at t j a) w)) e
    (ap (λ ws. after (λ k. 0) ws a) (map-range_with_len_more (tagged_item t j g) 0 n n
    (omega arith))
    ∙ after-append (λ k. 0) vs (tagged_item t j g n) a
    ∙ ap (λ m. if a == place_at t n then suc m else m) (after-is t j g n a)
    ∙ counted_one _ a (place_at t n) (place_at j n) (length (first_of (tagged_at t j a) n)) refl
    ∙ sym (length-first_of (tagged_at t j a) n))

union_index-is : (t j : Column) (g : ℕ → ℕ → Value) (n : ℕ)
    → union_index (λ k. 0) (map (tagged_item t j g) (range_with_len 0 n)) ≡ map (counted_tag t j)
    (range_with_len 0 n)
union_index-is t j g zero = refl
union_index-is t j g (suc n) =
    let e : n + 1 ≡ suc n = omega arith in
    let vs = map (tagged_item t j g) (range_with_len 0 n) in
    subst (λ w. union_index (λ k. 0) (map (tagged_item t j g) (range_with_len 0 w)) ≡ map
    (counted_tag t j) (range_with_len 0 w)) e
    (ap (union_index (λ k. 0)) (map-range_with_len_more (tagged_item t j g) 0 n n (omega arith))
    ∙ index-append (λ k. 0) vs (tagged_item t j g n)
    ∙ ap₂ (λ zs m. zs ++ pos m ∷ []) (union_index-is t j g n) (after-is t j g n (place_at t n))
    ∙ sym (map-range_with_len_more (counted_tag t j) 0 n n (omega arith)))

-- ---- the contents

pub reached_more : (t j : Column) (b : ℕ) (ys : List Layout) (a : ℕ) (y z : Layout)
    (zs : List Layout) → slice_get ys a ≡ Some y → AreReached t j b (take a ys) zs → IsReached y
    (first_of (tagged_at t j (b + a)) (size_of t)) z → IsValid z → AreReached t j b
    (take (suc a) ys) (zs ++ z ∷ [])
reached_more t j b [] a y z zs e h r v = cc
reached_more t j b (x ∷ ys) zero y z [] e h r v =
    let f : x ≡ y = cc in
    let g : b + zero ≡ b = omega arith in
    ((rw f (subst (λ c. IsReached y (first_of (tagged_at t j c) (size_of t)) z) g r), v), tt)
reached_more t j b (x ∷ ys) zero y z (w ∷ zs) e h r v = absurd h
reached_more t j b (x ∷ ys) (suc a) y z [] e h r v = absurd h
reached_more t j b (x ∷ ys) (suc a) y z (w ∷ zs) e h r v =
    let g : b + suc a ≡ suc b + a = omega arith in (
      h.0,
      reached_more t j (suc b) ys a y z zs e h.1
          (subst (λ c. IsReached y (first_of (tagged_at t j c) (size_of t)) z) g r) v,
    )

pub reached_push : (t j : Column) (ys : List Layout) (a : ℕ) (y z : Layout) (zs : List Layout)
    → slice_get ys a ≡ Some y → AreReached t j 0 (take a ys) zs
    → IsReached y (first_of (tagged_at t j a) (size_of t)) z → IsValid z
    → AreReached t j 0 (take (a + 1) ys) (zs ++ z ∷ [])
reached_push t j ys a y z zs e h r v =
    let g : a ≡ 0 + a = omega arith in
    rw add-one (reached_more t j 0 ys a y z zs e h
    (subst (λ c. IsReached y (first_of (tagged_at t j c) (size_of t)) z) g r) v)

types_reached : (t j : Column) (b : ℕ) (ys zs : List Layout) → AreReached t j b ys zs
    → map array_type ys ≡ map array_type zs
types_reached t j b [] [] h = refl
types_reached t j b (y ∷ ys) (z ∷ zs) h =
    ap₂ (λ u us. u ∷ us) (sym h.0.0.typ) (types_reached t j (suc b) ys zs h.1)
types_reached t j b [] (z ∷ zs) h = absurd h
types_reached t j b (y ∷ ys) [] h = absurd h

count_reached : (t j : Column) (b : ℕ) (ys zs : List Layout) → AreReached t j b ys zs
    → count (layouts_from zs) ≡ count (layouts_from ys)
count_reached t j b [] [] h = refl
count_reached t j b (y ∷ ys) (z ∷ zs) h = omega (arith, count_reached t j (suc b) ys zs h.1)
count_reached t j b [] (z ∷ zs) h = absurd h
count_reached t j b (y ∷ ys) [] h = absurd h

valid_reached : (t j : Column) (b : ℕ) (ys zs : List Layout) → AreReached t j b ys zs
    → AllValid (layouts_from zs)
valid_reached t j b [] [] h = tt
valid_reached t j b (y ∷ ys) (z ∷ zs) h = (h.0.1, valid_reached t j (suc b) ys zs h.1)
valid_reached t j b [] (z ∷ zs) h = absurd h
valid_reached t j b (y ∷ ys) [] h = absurd h

nth_reached : (t j : Column) (b : ℕ) (ys zs : List Layout) (a : ℕ) → AreReached t j b ys zs
    → a < count (layouts_from ys)
    → IsReached (nth (layouts_from ys) a) (first_of (tagged_at t j (b + a)) (size_of t))
    (nth (layouts_from zs) a)
nth_reached t j b [] [] a h l = absurd (omega arith)
nth_reached t j b (y ∷ ys) (z ∷ zs) zero h l =
    let g : b ≡ b + zero = omega arith in
    subst (λ c. IsReached y (first_of (tagged_at t j c) (size_of t)) z) g h.0.0
nth_reached t j b (y ∷ ys) (z ∷ zs) (suc a) h l =
    let g : suc b + a ≡ b + suc a = omega arith in
    subst (λ c. IsReached (nth (layouts_from ys) a) (first_of (tagged_at t j c) (size_of t))
    (nth (layouts_from zs) a)) g (nth_reached t j (suc b) ys zs a h.1 (omega arith))
nth_reached t j b [] (z ∷ zs) a h l = absurd h
nth_reached t j b (y ∷ ys) [] a h l = absurd h

nth_of_all : (t j : Column) (ys zs : List Layout) (a : ℕ) → AreReached t j 0 ys zs
    → a < count (layouts_from ys)
    → IsReached (nth (layouts_from ys) a) (first_of (tagged_at t j a) (size_of t))
    (nth (layouts_from zs) a)
nth_of_all t j ys zs a h l =
    let g : 0 + a ≡ a = omega arith in
    subst (λ c. IsReached (nth (layouts_from ys) a) (first_of (tagged_at t j c) (size_of t))
    (nth (layouts_from zs) a)) g (nth_reached t j 0 ys zs a h l)

-- the places of an alternative are places of its content
tagged_below : (same : Bool) (a b k n : ℕ) → (a == b) ≡ same → (a ≡ b → k < n)
    → AreBelow n (if a == b then k ∷ [] else [])
tagged_below true a b k n e h = rw e (h (grind arith), tt)
tagged_below false a b k n e h = rw e tt

pub union_below : (t j : Column) (ys : List Layout) (a : ℕ) (y : Layout) → slice_get ys a ≡ Some y
    → IsValid (union t j (layouts_from ys))
    → AreBelow (len y) (first_of (tagged_at t j a) (size_of t))
union_below t j ys a y e v =
    below-first_of (len y) (tagged_at t j a) (size_of t) (λ i l.
    tagged_below _ a (place_at t i) (place_at j i) (len y) refl (λ d.
    let f : len_of (layouts_from ys) (place_at t i) ≡ len y = ap (len_of (layouts_from ys)) (sym d)
    ∙ len_of-get ys a y e in
    omega (arith, (v.1.places i l).1, f)))

-- ---- the union over the items of each alternative

same_tag : (a k : ℕ) → (if a == a then k ∷ [] else []) ≡ k ∷ []
same_tag a k = let e : (a == a) ≡ true = grind arith in ap (λ b. if b then k ∷ [] else []) e

at-counted : (t j : Column) (i : ℕ) → i < size_of t → at (counted_tags t j) i ≡ counted_tag t j i
at-counted t j i l = at-lane_of I64 (size_of t) (counted_tag t j) i l

-- the place among the items of its alternative is one of them
counted_within : (t j : Column) (i : ℕ) → i < size_of t
    → length (first_of (tagged_at t j (place_at t i)) i) < length
    (first_of (tagged_at t j (place_at t i)) (size_of t))
counted_within t j i l =
    let w : length (tagged_at t j (place_at t i) i) ≡ 1 = ap length
    (same_tag (place_at t i) (place_at j i)) in
    omega (arith, first_of-room (tagged_at t j (place_at t i)) i (size_of t) l, w)

counted_item : (t j : Column) (ys zs : List Layout) (i : ℕ) → AreReached t j 0 ys zs
    → i < size_of t → place_at t i < count (layouts_from ys)
    → array_item (nth (layouts_from ys) (place_at t i)) (place_at j i) ≡ array_item
    (nth (layouts_from zs) (place_at t i)) (length (first_of (tagged_at t j (place_at t i)) i))
counted_item t j ys zs i h l c =
    let a = place_at t i in
    let b = length (first_of (tagged_at t j a) i) in
    let r = nth_of_all t j ys zs a h c in
    let z : b + 0 ≡ b = omega arith in
    let w : length (tagged_at t j a i) ≡ 1 = ap length (same_tag a (place_at j i)) in
    sym (reached-item (nth (layouts_from ys) a) (nth (layouts_from zs) a)
    (first_of (tagged_at t j a) (size_of t)) b r (counted_within t j i l)
    ∙ ap (λ m. array_item (nth (layouts_from ys) a)
    (get_or (first_of (tagged_at t j a) (size_of t)) m 0)) (sym z)
    ∙ ap (array_item (nth (layouts_from ys) a))
    (first_of-at (tagged_at t j a) i (size_of t) 0 0 l (omega arith) ∙ ap (λ ks. get_or ks 0 0)
    (same_tag a (place_at j i))))

pub union_tagged : (t j : Column) (ys : List Layout) → IsValid (union t j (layouts_from ys))
    → AreTagged t j
union_tagged t j ys v = record {
  tag_kind = v.1.tag_kind;
  index_kind = v.1.index_kind;
  same_size = v.1.same_size;
  tags = λ i l. (v.1.tags i l).0;
  places = λ i l.
      let p = v.1.places i l in
      let q = (v.1.tags i l).1 in (
        p.0,
        omega (
          arith,
          p.1,
          len_of-nth (layouts_from ys) (place_at t i),
          len-fits
              (nth (layouts_from ys) (place_at t i)) (valid_at ys (place_at t i) v.2 q),
        ),
      );
}
  where
    valid_at : (ys : List Layout) (a : ℕ) → AllValid (layouts_from ys)
        → a < count (layouts_from ys) → IsValid (nth (layouts_from ys) a)
    valid_at [] a v l = absurd (omega arith)
    valid_at (y ∷ ys) zero v l = v.0
    valid_at (y ∷ ys) (suc a) v l = valid_at ys a v.1 (omega arith)

pub union_opened : (x : Layout) (t j k : Column) (ys zs : List Layout) → IsOpened x (Union t j ys)
    → k ≡ counted_tags t j → AreReached t j 0 ys zs → IsOpened x (Union t k zs)
union_opened x t j k ys zs h e r = rw e (record {
  kind = h.kind ∙ ap (λ us. uni (types_from us)) (types_reached t j 0 ys zs r);
  size = h.size;
  valid = (
    h.valid.0,
    record {
      some = omega (arith, h.valid.1.some, count_reached t j 0 ys zs r);
      tag_kind = h.valid.1.tag_kind;
      index_kind = tt;
      same_size = sym (size-lane_of I64 (size_of t) (counted_tag t j));
      tags = λ i l. let q = h.valid.1.tags i l in
          (q.0, omega (arith, q.1, count_reached t j 0 ys zs r));
      places = λ i l.
          let c = (h.valid.1.tags i l).1 in
          let a = place_at t i in
          rw (at-counted t j i l) (
            omega (arith, ints),
            omega (
              arith,
              counted_within t j i l,
              len_of-nth (layouts_from zs) a,
              reached-len
                  (nth (layouts_from ys) a) (nth (layouts_from zs) a)
                  (first_of (tagged_at t j a) (size_of t)) (nth_of_all t j ys zs a r c),
            ),
          );
    },
    valid_reached t j 0 ys zs r,
  );
  lengths = tt;
  items = λ i l.
      let l' : i < size_of t = omega (arith, h.size) in
      h.items i l
      ∙ ap (alt (place_at t i)) (counted_item t j ys zs i r l' (h.valid.1.tags i l').1 ∙ ap
      (λ z. array_item (nth (layouts_from zs) (place_at t i)) (nat_of z))
      (sym (at-counted t j i l')));
})

union_values : (x : Layout) (t j : Column) (ys : List Layout) → IsOpened x (Union t j ys)
    → array_items x ≡ map (tagged_item t j (λ a. array_item (nth (layouts_from ys) a)))
    (range_with_len 0 (size_of t))
union_values x t j ys h =
    let g : ℕ → ℕ → Value = λ a. array_item (nth (layouts_from ys) a) in
    array_items-at x
    ∙ map-in (array_item x) (tagged_item t j g) 0 (len x) (λ i l. h.items i (omega arith))
    ∙ ap (λ n. map (tagged_item t j g) (range_with_len 0 n)) (sym h.size)

-- the tags as they are, since none is negative
tag_number : (k : Kind) (z : ℤ) → k ≡ I8 → pos 0 ≤ℤ element k z → z ≡ pos (nat_of (element k z))
tag_number k z e h = of z (ap (λ k. element k z) e) h
  where
    of : (z : ℤ) → element k z ≡ z → pos 0 ≤ℤ element k z → z ≡ pos (nat_of (element k z))
    of (pos n) f h = ap (λ y. pos (nat_of y)) (sym f)
    of (negsuc n) f h =
        let g : pos 0 ≤ℤ negsuc n = subst (λ y. pos 0 ≤ℤ y) f h in absurd (omega (arith, ints))

tags-is : (t j : Column) (g : ℕ → ℕ → Value) → t.kind ≡ I8 →
    ((i : ℕ) → i < size_of t → pos 0 ≤ℤ at t i) → t ≡
    record { kind = I8; items = tags (map (tagged_item t j g) (range_with_len 0 (size_of t))) }
tags-is t j g e h =
    let vs = map (tagged_item t j g) (range_with_len 0 (size_of t)) in
    let n : length vs ≡ size_of t = length-map-range_with_len (tagged_item t j g) 0 (size_of t) in
    let m : length (tags vs) ≡ size_of t = length-map vs (λ v. pos (tag_of v)) ∙ n in
    ap₂ (λ k zs. record { kind = k; items = zs }) e
    (ext_get_or (pos 0) t.items (tags vs) (sym m) (λ i l.
    tag_number t.kind (get_or t.items i (pos 0)) e (h i l)
    ∙ ap (λ v. pos (tag_of v)) (sym (get_or-map-range_with_len (tagged_item t j g) 0 (size_of t) i i
    null l (omega arith)))
    ∙ sym (get_or_tag vs i (omega arith))))
  where
    get_or_tag : (vs : List Value) (i : ℕ) → i < length vs
        → get_or (tags vs) i (pos 0) ≡ pos (tag_of (get_or vs i null))
    get_or_tag [] i l = absurd (omega arith)
    get_or_tag (v ∷ vs) zero l = refl
    get_or_tag (v ∷ vs) (suc i) l = get_or_tag vs i (omega arith)

alternatives_reached : (t j : Column) (g : ℕ → ℕ → Value) (b : ℕ) (ys zs : List Layout)
    → ((a : ℕ) → a < length ys → (i : ℕ) → g (b + a) i ≡ array_item (nth (layouts_from ys) a) i)
    → AreReached t j b ys zs
    → AreAlternatives b (map (tagged_item t j g) (range_with_len 0 (size_of t))) zs
alternatives_reached t j g b [] [] e h = tt
alternatives_reached t j g b (y ∷ ys) (z ∷ zs) e h =
    let c : b + zero ≡ b = omega arith in (
      h.0.0.items ∙ same (first_of (tagged_at t j b) (size_of t)) ∙ sym
          (given_from t j g b 0 (size_of t)),
      alternatives_reached t j g (suc b) ys zs
          (λ a l i. let d : suc b + a ≡ b + suc a = omega arith in ap (λ m. g m i) d ∙ e (suc a)
          (omega arith) i) h.1,
    )
  where
    same : (ks : List ℕ) → map (array_item y) ks ≡ map (g b) ks
    same [] = refl
    same (k ∷ ks) =
        let c : b + zero ≡ b = omega arith in ap₂ (λ v vs. v ∷ vs)
        (sym (ap (λ m. g m k) (sym c) ∙ e 0 (omega arith) k)) (same ks)
alternatives_reached t j g b [] (z ∷ zs) e h = absurd h
alternatives_reached t j g b (y ∷ ys) [] e h = absurd h

pub union_in_order : (x : Layout) (t j k : Column) (ys zs : List Layout)
    → IsOpened x (Union t j ys) → k ≡ counted_tags t j → AreReached t j 0 ys zs
    → IsInOrder (array_items x) (Union t k zs)
union_in_order x t j k ys zs h e r =
    let g : ℕ → ℕ → Value = λ a. array_item (nth (layouts_from ys) a) in
    let values = union_values x t j ys h in (
      tags-is t j g h.valid.1.tag_kind (λ i l. (h.valid.1.tags i l).0) ∙ ap
          (λ vs. record { kind = I8; items = tags vs }) (sym values),
      e ∙ ap (λ zs. record { kind = I64; items = zs })
          (sym (union_index-is t j g (size_of t)) ∙ ap (union_index (λ k. 0)) (sym values)),
      subst (λ vs. AreAlternatives 0 vs zs) (sym values)
          (alternatives_reached t j g 0 ys zs (λ a l i. let d : 0 + a ≡ a = omega arith in ap
          (λ m. array_item (nth (layouts_from ys) m) i) d) r),
    )
