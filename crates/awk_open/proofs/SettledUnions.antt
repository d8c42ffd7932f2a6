-- Alternatives with nulls among them, settled into a union and an index into it.
use Rattle.std.proofs.Common.{◌≡◌, ℕ, zero, suc, ◌+◌, ◌<◌, ◌≤◌, ◌^◌, List, [], ◌∷◌, length, map}
use Rattle.std.proofs.Common.{take, slice_get, Some, add-one, arith, refl, ap, sym, ◌∙◌, subst}
use Rattle.std.specs.Prelude.{ℤ, pos, negsuc, ◌≤ℤ◌, ◌<ℤ◌, true, false, None}
use Rattle.std.proofs.lemmas.Int.{ints}
use Rattle.std.proofs.lemmas.List.{length-map}
use Rattle.awk_types.specs.DataType.{DataType, unknown, leaf, var, reg, rec, tup, opt, uni}
use Rattle.awk_types.specs.DataType.{types_from}
use Rattle.awk_types.specs.Limit.{limit}
use Rattle.awk_types.specs.Value.{Value, null, alt}
use Rattle.awk_types.specs.Simple.{IsSimple, ArePlain, present, is_option, is_union, alternatives}
use Rattle.awk_types.specs.Simple.{present_alternatives, union_of}
use Rattle.awk_types.proofs.SimpleLaws.{present_alternatives_plain, present_alternatives_stay}
use Rattle.awk_types.proofs.SimpleLaws.{union_of_stays, present_simple}
use Rattle.awk_types.proofs.Trees.{types_from-list}
use Rattle.awk_types.proofs.PartLimits.{few_alternatives, within_uni, present_within}
use Rattle.awk_lanes.specs.declared.kind.Kind.TheVariants.{I8, I64}
use Rattle.awk_lanes.specs.Column.{Column}
use Rattle.awk_lanes.specs.Numbers.{nat_of}
use Rattle.awk_lanes.specs.Places.{at, place_at, size_of, option_place}
use Rattle.awk_layout.specs.Contents.{count-layouts_from}
use Rattle.awk_layout.specs.Layout.{Layout, layouts_from, union}
use Rattle.awk_layout.specs.Valid.{len, IsValid, AllValid, IsUnion}
use Rattle.awk_layout.specs.Laws.{len-fits}
use Rattle.awk_layout.specs.Item.{at_option}
use Rattle.awk_layout.specs.Typing.{array_type}
use Rattle.awk_gather.specs.Arrays.{array_item}
use Rattle.awk_lanes.specs.Made.{lane_of}
use Rattle.awk_open.specs.Opened.{IsOpened, AreWithin}
use Rattle.awk_open.specs.declared.opening.Opened.TheVariants.{Option as Optional, Union}
use Rattle.awk_spread.specs.Spread.{spread_at, spread_of, shift, wide, nth_of, chosen, Fits, IsSpread}
use Rattle.awk_spread.specs.Spread.{or_else}
use Rattle.awk_open.specs.Settled.{settled_tag, settled_place, settled_index, IsPresentAt, AreTags}
use Rattle.awk_open.specs.Settled.{CanUnite, IsSettled}
use Rattle.awk_open.proofs.LayoutParts.{len_of-nth}
use Rattle.awk_lanes.proofs.MadeLanes.{size-lane_of, at-lane_of}
use Rattle.awk_spread.proofs.UnionItems.{simples-types, item-union}
use Rattle.awk_open.proofs.OpenedArrays.{all_within, option_present}
use Rattle.awk_open.proofs.ItemShapes.{single_item, united_item, present_item, some_alternatives}

pub valid_more : (xs : List Layout) (i : ℕ) (y : Layout) → slice_get xs i ≡ Some y → IsValid y
    → AllValid (layouts_from (take i xs)) → AllValid (layouts_from (take (i + 1) xs))
valid_more xs i y e v h = rw add-one (go xs i e h)
  where
    go : (xs : List Layout) (i : ℕ) → slice_get xs i ≡ Some y → AllValid (layouts_from (take i xs))
        → AllValid (layouts_from (take (suc i) xs))
    go [] i e h = cc
    go (x ∷ xs) zero e h = let f : x ≡ y = cc in (rw f v, tt)
    go (x ∷ xs) (suc i) e h = (h.0, go xs i e h.1)

-- ---- the union

unite_tag : (ys : List Layout) (t k : ℤ) (d : ℕ) (e : ℤ) → Fits ys t k → d < length ys → pos 0 ≤ℤ e
    → nat_of e < len (nth_of ys d)
    → (pos 0 ≤ℤ or_else k t (pos d)) × (nat_of (or_else k t (pos d)) < length ys) ×
    (pos 0 ≤ℤ or_else k k e) × (nat_of (or_else k k e) < len
    (nth_of ys (nat_of (or_else k t (pos d)))))
unite_tag ys t (pos n) d e f a c b =
    let h = f (omega (arith, ints)) in (h.0, h.1, omega (arith, ints), h.2)
unite_tag ys t (negsuc n) d e f a c b = (omega (arith, ints), a, c, b)

pub united : (t k : Column) (ys : List Layout) (d : ℕ) (e : ℤ) → CanUnite t k ys → d < length ys
    → pos 0 ≤ℤ e → nat_of e < len (nth_of ys d)
    → IsUnion (lane_of I8 (size_of k) (settled_tag t k d))
    (lane_of I64 (size_of k) (settled_place k e)) (layouts_from ys)
united t k ys d e h a c b = record {
  some = omega (arith, h.some, count-layouts_from ys);
  tag_kind = refl;
  index_kind = tt;
  same_size = size-lane_of I8 n f ∙ sym (size-lane_of I64 n g);
  tags = λ i l.
      let l' : i < n = omega (arith, size-lane_of I8 n f) in
      let w = unite_tag ys (at t i) (at k i) d e (h.fits i l') a c b in
      rw (at-lane_of I8 n f i l', count-layouts_from ys) (w.0, w.1);
  places = λ i l.
      let l' : i < n = omega (arith, size-lane_of I8 n f) in
      let w = unite_tag ys (at t i) (at k i) d e (h.fits i l') a c b in
      rw (
        at-lane_of I8 n f i l',
        at-lane_of I64 n g i l',
        len_of-nth (layouts_from ys)
            (nat_of (settled_tag t k d i)),
      ) (w.2, w.3);
}
  where
    n : ℕ
    n = size_of k

    f : ℕ → ℤ
    f = settled_tag t k d

    g : ℕ → ℤ
    g = settled_place k e

below_own : (k : ℤ) (j n : ℕ) → j < n → or_else k (pos j) (negsuc 0) <ℤ pos n
below_own (pos m) j n h = omega (arith, ints)
below_own (negsuc m) j n h = omega (arith, ints)

settled_item : (ys : List Layout) (t k : ℤ) (d : ℕ) (e : ℤ) (j : ℕ) (f : ℕ → Value)
    → f j ≡ spread_of ys (nat_of (or_else k t (pos d))) (nat_of (or_else k k e))
    → at_option (option_place (or_else k (pos j) (negsuc 0))) f ≡ at_option (option_place k)
    (spread_of ys (nat_of t))
settled_item ys t (pos n) d e j f h = h
settled_item ys t (negsuc n) d e j f h = refl

pub settled_some : (t k T K i : Column) (ys : List Layout) (y : Layout) (d : ℕ) (e : ℤ)
    → CanUnite t k ys → T ≡ lane_of I8 (size_of k) (settled_tag t k d)
    → K ≡ lane_of I64 (size_of k) (settled_place k e)
    → i ≡ lane_of I64 (size_of k) (settled_index k) → y ≡ union T K (layouts_from ys)
    → IsSettled t k ys i y
settled_some t k T K i ys y d e h a b c q = rw (q, a, b, c) (record {
  size = size-lane_of I64 n (settled_index k);
  index = record {
    kind = tt;
    below = λ j l.
        let l' : j < n = omega (arith, size-lane_of I64 n (settled_index k)) in
        rw (at-lane_of I64 n (settled_index k) j l', size-lane_of I8 n (settled_tag t k d))
        (below_own (at k j) j n l');
  };
  typ = ap union_of (simples-types ys);
  contents = λ v. v.2;
  items = λ j l. rw (at-lane_of I64 n (settled_index k) j l)
      (settled_item ys (at t j) (at k j) d e j
      (array_item (union (lane_of I8 n (settled_tag t k d)) (lane_of I64 n (settled_place k e))
      (layouts_from ys)))
      (item-union (lane_of I8 n (settled_tag t k d)) (lane_of I64 n (settled_place k e)) ys j
      ∙ ap (λ z. spread_of ys (nat_of z) (place_at (lane_of I64 n (settled_place k e)) j))
      (at-lane_of I8 n (settled_tag t k d) j l)
      ∙ ap (λ z. spread_of ys (nat_of (settled_tag t k d j)) (nat_of z))
      (at-lane_of I64 n (settled_place k e) j l)));
})
  where
    n : ℕ
    n = size_of k

-- none is present
none_item : (z : ℤ) (f g : ℕ → Value) → z <ℤ pos 0
    → at_option (option_place z) f ≡ at_option (option_place z) g
none_item (pos n) f g h = absurd (omega (arith, ints))
none_item (negsuc n) f g h = refl

pub settled_none : (t k T K i : Column) (ys : List Layout) (y : Layout) → k.kind ≡ I64
    → IsPresentAt k None → T.items ≡ [] → y ≡ union T K (layouts_from ys) → i ≡ k
    → IsSettled t k ys i y
settled_none t k T K i ys y a h e q c = rw (q, c) (record {
  size = refl;
  index = record { kind = rw a tt; below = λ j l. rw e (h j l) };
  typ = ap union_of (simples-types ys);
  contents = λ v. v.2;
  items = λ j l. none_item (at k j) (array_item (union T K (layouts_from ys)))
      (spread_of ys (place_at t j)) (h j l);
})

-- no item, no tag
pub united_none : (T K : Column) (ys : List Layout) → 0 < length ys → T.kind ≡ I8 → K.kind ≡ I64
    → T.items ≡ [] → K.items ≡ [] → IsUnion T K (layouts_from ys)
united_none T K ys h a b e f = record {
  some = omega (arith, count-layouts_from ys);
  tag_kind = a;
  index_kind = rw b tt;
  same_size = ap length (e ∙ sym f);
  tags = λ i l. absurd (omega (arith, ap length e));
  places = λ i l. absurd (omega (arith, ap length e));
}

-- the same, of lanes that are made with the tag and the place of a present item
pub unite_by : (t k T K : Column) (ys zs : List Layout) (s d : ℕ) (e : ℤ) → CanUnite t k ys
    → s < size_of k → pos 0 ≤ℤ at k s → d ≡ place_at t s → e ≡ at k s
    → T ≡ lane_of I8 (size_of k) (settled_tag t k d)
    → K ≡ lane_of I64 (size_of k) (settled_place k e) → zs ≡ ys
    → IsUnion T K (layouts_from zs) × (size_of T < 2 ^ 63)
unite_by t k T K ys zs s d e h l p a b f g c =
    let w = h.fits s l p in
    let m : d < length ys = rw a w.1 in
    let n : pos 0 ≤ℤ e = rw b p in
    let o : nat_of e < len (nth_of ys d) = rw (a, b) w.2 in
    rw (c, f, g) (
      united t k ys d e h m n o,
      omega
          (arith, h.small, size-lane_of I8 (size_of k) (settled_tag t k d)),
    )

pub unite_none : (T K : Column) (ys zs : List Layout) → 0 < length ys → T.kind ≡ I8 → K.kind ≡ I64
    → T.items ≡ [] → K.items ≡ [] → zs ≡ ys → IsUnion T K (layouts_from zs)
unite_none T K ys zs h a b e f c = rw c (united_none T K ys h a b e f)

pub tags_of : (t k : Column) (ys : List Layout) → CanUnite t k ys → AreTags t k
tags_of t k ys h = λ j l q. let w = h.fits j l q in (w.0, omega (arith, w.1, h.few))

-- ---- items of plain types

spread_plain : (ys : List Layout) (k i : ℕ) → ArePlain (types_from (map array_type ys))
    → AllValid (layouts_from ys) → k < length ys → i < len (nth_of ys k)
    → spread_of ys k i ≡ alt k (array_item (nth_of ys k) i)
spread_plain [] k i p v h l = absurd (omega arith)
spread_plain (y ∷ ys) zero i p v h l = single_item y i v.0 l p.0 p.1
spread_plain (y ∷ ys) (suc k) i p v h l =
    let w : wide y ≡ 1 = ap length (present_alternatives_stay (array_type y) p.0 p.1) in
    let s : wide y + k ≡ suc k = omega arith in
    ap (shift (wide y)) (spread_plain ys k i p.3 v.1 (omega arith) l) ∙ ap
    (λ n. alt n (array_item (nth_of ys k) i)) s

chosen_plain : (ys : List Layout) (t k : ℤ) → ArePlain (types_from (map array_type ys))
    → AllValid (layouts_from ys) → Fits ys t k
    → chosen ys t k ≡ at_option (option_place k) (spread_of ys (nat_of t))
chosen_plain ys t (pos n) p v f =
    let h = f (omega (arith, ints)) in sym (spread_plain ys (nat_of t) n p v h.1 h.2)
chosen_plain ys t (negsuc n) p v f = refl

plain_types : (x : Layout) (ys : List Layout) → IsSimple (array_type x)
    → map array_type ys ≡ present_alternatives (array_type x)
    → ArePlain (types_from (map array_type ys))
plain_types x ys s e =
    subst (λ ts. ArePlain (types_from ts)) (sym e) (present_alternatives_plain (array_type x) s)

-- ---- types

union_type : (t : DataType) → is_union (present t) ≡ true → is_option t ≡ false
    → t ≡ uni (types_from (present_alternatives t))
union_type (uni ts) a b = ap uni (sym (types_from-list ts))
union_type (opt t) a b = cc
union_type unknown a b = cc
union_type (leaf p) a b = cc
union_type (var t) a b = cc
union_type (reg n t) a b = cc
union_type (rec ns ts) a b = cc
union_type (tup ts) a b = cc

whole_inside : (t : DataType) → IsSimple t → is_union t ≡ true → union_of (alternatives t) ≡ t
whole_inside (uni ts) s a = union_of_stays ts s
whole_inside (opt t) s a = cc
whole_inside unknown s a = cc
whole_inside (leaf p) s a = cc
whole_inside (var t) s a = cc
whole_inside (reg n t) s a = cc
whole_inside (rec ns ts) s a = cc
whole_inside (tup ts) s a = cc

-- the type of a union without its option
union_within : (t : DataType) → is_union t ≡ true → t ≡ uni (types_from (alternatives t))
union_within (uni ts) a = ap uni (sym (types_from-list ts))
union_within (opt t) a = cc
union_within unknown a = cc
union_within (leaf p) a = cc
union_within (var t) a = cc
union_within (reg n t) a = cc
union_within (rec ns ts) a = cc
union_within (tup ts) a = cc

limit_united : (x : Layout) (ys : List Layout)
    → map array_type ys ≡ present_alternatives (array_type x)
    → is_union (present (array_type x)) ≡ true → limit (array_type x) ≡ None
    → limit (uni (types_from (map array_type ys))) ≡ None
limit_united x ys e u h =
    ap (λ ts. limit (uni (types_from ts))) e ∙ ap limit
    (sym (union_within (present (array_type x)) u)) ∙ present_within (array_type x) h

pub few_parts : (x : Layout) (ys : List Layout)
    → map array_type ys ≡ present_alternatives (array_type x)
    → is_union (present (array_type x)) ≡ true → limit (array_type x) ≡ None → length ys ≤ 127
few_parts x ys e u h =
    omega (
      arith,
      length-map ys array_type,
      few_alternatives (map array_type ys)
          (limit_united x ys e u h),
    )

pub parts_within : (x : Layout) (ys : List Layout)
    → map array_type ys ≡ present_alternatives (array_type x)
    → is_union (present (array_type x)) ≡ true → limit (array_type x) ≡ None → AreWithin ys
parts_within x ys e u h =
    all_within ys (λ k t q. within_uni (map array_type ys) k t q (limit_united x ys e u h))

pub some_parts : (x : Layout) (ys : List Layout)
    → map array_type ys ≡ present_alternatives (array_type x) → IsValid x → 0 < length ys
some_parts x ys e v = omega (arith, length-map ys array_type, ap length e, some_alternatives x v)

-- ---- all places

pub can_unite : (x : Layout) (p t k : Column) (ys : List Layout)
    → p ≡ lane_of I64 (len x) (λ i. pos i) → IsValid x → is_union (present (array_type x)) ≡ true
    → limit (array_type x) ≡ None → IsSpread x p t k ys → CanUnite t k ys
can_unite x p t k ys e v u h q = record {
  tag_kind = q.chosen.tag_kind;
  index_kind = q.chosen.index_kind;
  same_size = q.chosen.tag_size ∙ sym q.chosen.index_size;
  small = omega (arith, spread_size x p t k ys e q, len-fits x v);
  fits = λ j l. q.chosen.fits j (omega (arith, q.chosen.index_size));
  some = some_parts x ys q.types v;
  few = few_parts x ys q.types u h;
}
  where
    spread_size : (x : Layout) (p t k : Column) (ys : List Layout)
        → p ≡ lane_of I64 (len x) (λ i. pos i) → IsSpread x p t k ys → size_of k ≡ len x
    spread_size x p t k ys e q =
        q.chosen.index_size ∙ ap size_of e ∙ size-lane_of I64 (len x) (λ i. pos i)

first_size : (n : ℕ) (p : Column) → p ≡ lane_of I64 n (λ i. pos i) → size_of p ≡ n
first_size n p e = ap size_of e ∙ size-lane_of I64 n (λ i. pos i)

-- the item of a union by tag and place
all_item : (x : Layout) (p t k : Column) (ys : List Layout) (j : ℕ)
    → p ≡ lane_of I64 (len x) (λ i. pos i) → IsValid x → is_union (present (array_type x)) ≡ true
    → IsSpread x p t k ys → j < len x → chosen ys (at t j) (at k j) ≡ array_item x j
all_item x p t k ys j e v u q l =
    let l' : j < size_of p = omega (arith, first_size (len x) p e) in
    let a : at p j ≡ pos j = ap (λ c. at c j) e ∙ at-lane_of I64 (len x) (λ i. pos i) j l in
    q.chosen.items j l' ∙ ap (λ z. at_option (option_place z) (spread_at x)) a ∙ united_item x j v l
    u

-- ---- a union that is no option

one_present : (ys : List Layout) (t k : ℤ) (v : Value) → (v ≡ null → ⊥) → chosen ys t k ≡ v
    → (pos 0 ≤ℤ k) × (or_else k t (pos 0) ≡ t) ×
    (alt (nat_of t) (array_item (nth_of ys (nat_of t)) (nat_of k)) ≡ v)
one_present ys t (pos n) v h e = (omega (arith, ints), refl, e)
one_present ys t (negsuc n) v h e = absurd (h (sym e))

pub opened_union : (x : Layout) (p t k T : Column) (ys zs : List Layout)
    → p ≡ lane_of I64 (len x) (λ i. pos i) → IsValid x → is_union (present (array_type x)) ≡ true
    → is_option (array_type x) ≡ false → limit (array_type x) ≡ None → IsSpread x p t k ys
    → T ≡ lane_of I8 (size_of k) (settled_tag t k 0) → zs ≡ ys → AllValid (layouts_from ys)
    → IsOpened x (Union T k zs)
opened_union x p t k T ys zs e v u o h q a b w = rw (a, b) (record {
  kind = union_type (array_type x) u o ∙ ap (λ ts. uni (types_from ts)) (sym q.types);
  size = size-lane_of I8 (size_of k) f ∙ m;
  valid = (
    omega (arith, size-lane_of I8 (size_of k) f, m, len-fits x v),
    record {
      some = omega (arith, some_parts x ys q.types v, count-layouts_from ys);
      tag_kind = refl;
      index_kind = rw q.chosen.index_kind tt;
      same_size = size-lane_of I8 (size_of k) f;
      tags = λ i l.
          let l' : i < size_of k = omega (arith, size-lane_of I8 (size_of k) f) in
          let s = part i l' in
          let g = q.chosen.fits i (omega (arith, q.chosen.index_size)) s.0 in
          rw (at-lane_of I8 (size_of k) f i l', s.1, count-layouts_from ys) (g.0, g.1);
      places = λ i l.
          let l' : i < size_of k = omega (arith, size-lane_of I8 (size_of k) f) in
          let s = part i l' in
          let g = q.chosen.fits i (omega (arith, q.chosen.index_size)) s.0 in
          rw (at-lane_of I8 (size_of k) f i l', s.1, len_of-nth (layouts_from ys) (place_at t i))
          (s.0, g.2);
    },
    w,
  );
  lengths = tt;
  items = λ j l.
      let l' : j < size_of k = omega (arith, m) in
      let s = part j l' in
      rw (at-lane_of I8 (size_of k) f j l', s.1) (sym s.2);
})
  where
    f : ℕ → ℤ
    f = settled_tag t k 0

    m : size_of k ≡ len x
    m = q.chosen.index_size ∙ first_size (len x) p e

    part : (j : ℕ) → j < size_of k
        → (pos 0 ≤ℤ at k j) × (settled_tag t k 0 j ≡ at t j) ×
        (alt (place_at t j) (array_item (nth_of ys (place_at t j)) (place_at k j)) ≡ array_item x j)
    part j l =
        let l' : j < len x = omega (arith, m) in
        one_present ys (at t j) (at k j) (array_item x j) (present_item x j v l' o)
        (all_item x p t k ys j e v u q l')

-- ---- an option of a union

pub settled_limit : (x y : Layout) (t k i : Column) (ys : List Layout)
    → map array_type ys ≡ present_alternatives (array_type x)
    → is_union (present (array_type x)) ≡ true → IsSimple (array_type x)
    → limit (array_type x) ≡ None → IsSettled t k ys i y → limit (array_type y) ≡ None
settled_limit x y t k i ys e u s h r =
    ap limit (settled_type x y t k i ys e u s r) ∙ present_within (array_type x) h
  where
    settled_type : (x y : Layout) (t k i : Column) (ys : List Layout)
        → map array_type ys ≡ present_alternatives (array_type x)
        → is_union (present (array_type x)) ≡ true → IsSimple (array_type x) → IsSettled t k ys i y
        → array_type y ≡ present (array_type x)
    settled_type x y t k i ys e u s r =
        r.typ ∙ ap union_of e ∙ whole_inside (present (array_type x))
        (present_simple (array_type x) s) u

pub opened_united : (x y z : Layout) (p t k i : Column) (ys : List Layout)
    → p ≡ lane_of I64 (len x) (λ i. pos i) → IsValid x → is_union (present (array_type x)) ≡ true
    → is_option (array_type x) ≡ true → IsSimple (array_type x) → IsSpread x p t k ys
    → IsSettled t k ys i y → IsValid y → z ≡ y → IsOpened x (Optional i z)
opened_united x y z p t k i ys e v u o s q r w c = rw c (record {
  kind =
      option_present (array_type x) o ∙ ap opt
      (sym (r.typ ∙ ap union_of q.types ∙ whole_inside (present (array_type x))
      (present_simple (array_type x) s) u));
  size = m;
  valid = (omega (arith, m, len-fits x v), r.index, w);
  lengths = tt;
  items = λ j l.
      let l' : j < size_of k = omega (arith, n) in
      let d : j < size_of p = omega (arith, first_size (len x) p e) in
      sym (r.items j l' ∙ sym (chosen_plain ys (at t j) (at k j) (plain_types x ys s q.types)
      (r.contents w) (q.chosen.fits j d)) ∙ all_item x p t k ys j e v u q l);
})
  where
    n : size_of k ≡ len x
    n = q.chosen.index_size ∙ first_size (len x) p e

    m : size_of i ≡ len x
    m = r.size ∙ n
