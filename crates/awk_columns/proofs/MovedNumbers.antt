-- Numbers of lists moved as the bytes that they lie in.
use Rattle.std.proofs.Common.{◌≡◌, ℕ, ◌+◌, ◌-◌, ◌*◌, ◌<◌, ◌≤◌, List, ◌++◌, map, length, drop}
use Rattle.std.proofs.Common.{get_or, slice_range, refl, ap, ap₂, sym, subst, ◌∙◌, arith}
use Rattle.std.proofs.Common.{length-take, length-drop, length-append, get_or-take, get_or-drop}
use Rattle.std.specs.Prelude.{ℤ, pos}
use Rattle.std.specs.List.{range_with_len}
use Rattle.std.proofs.lemmas.List.{ext_get_or, get_or-map, length-map, map-append}
use Rattle.std.proofs.lemmas.List.FromFn.{length-map-range_with_len, get_or-map-range_with_len}
use Rattle.std.proofs.lemmas.List.FromFn.{fill_by_all}
use Rattle.awk_types.specs.Value.{null}
use Rattle.awk_lanes.specs.Column.{Column}
use Rattle.awk_lanes.specs.Cut.{cut_of}
use Rattle.awk_lanes.specs.Numbers.{element, numbers, width}
use Rattle.awk_lanes.specs.Places.{size_of}
use Rattle.awk_lanes.specs.declared.kind.Kind.{Kind}
use Rattle.awk_lanes.proofs.NumberParts.{numbers-join}
use Rattle.awk_layout.specs.Item.{leaf_value}
use Rattle.awk_layout.specs.Layout.{flat, Layout}
use Rattle.awk_gather.specs.Arrays.{array_item}
use Rattle.awk_counts.specs.Counted.{first_of, numbers_at, span_at}
use Rattle.awk_columns.specs.Reached.{IsReached}
use Rattle.awk_columns.proofs.ArrayLaws.{array_items-at}
use Rattle.awk_counts.proofs.FirstPlaces.{first_of-more}

-- ---- bytes one after another

-- the bytes of numbers
pub record AreBytesOf (k : Kind) (zs : List ℤ) (b : List ℕ) : Type 0 where
  pub size : length b ≡ length zs * width k
  pub same : numbers k (length zs) b ≡ zs

bytes_more : (k : Kind) (zs ys : List ℤ) (a b : List ℕ) → length b ≡ length ys * width k
    → numbers k (length ys) b ≡ ys → AreBytesOf k zs a → AreBytesOf k (zs ++ ys) (a ++ b)
bytes_more k zs ys a b l n h =
    let total : length (zs ++ ys) ≡ length zs + length ys = length-append zs ys in
    let d : (length zs + length ys) * width k ≡ length zs * width k + length ys * width k =
    omega arith in
    record {
      size = length-append a b ∙ ap₂ (λ x y. x + y) h.size l ∙ sym d
          ∙ ap (λ n. n * width k) (sym total);
      same = ap (λ n. numbers k n (a ++ b)) total
          ∙ numbers-join k (length zs) (length ys) a b h.size
          ∙ ap₂ (λ x y. x ++ y) h.same n;
    }

-- ---- a list's numbers

-- a part of numbers, by places
slice-at : (zs : List ℤ) (lo m : ℕ) → lo + m ≤ length zs
    → slice_range zs lo (lo + m) ≡ map (λ k. get_or zs k (pos 0)) (range_with_len lo m)
slice-at zs lo m h =
    let e : lo + m - lo ≡ m = omega arith in
    let w : length (slice_range zs lo (lo + m)) ≡ m =
    omega (arith, length-take (lo + m - lo) (drop lo zs), length-drop lo zs) in
    ext_get_or (pos 0) _ _
    (w ∙ sym (length-map-range_with_len (λ k. get_or zs k (pos 0)) lo m))
    (λ i l.
    get_or-take (lo + m - lo) (drop lo zs) i (pos 0) (omega arith)
    ∙ get_or-drop lo zs i (pos 0)
    ∙ sym (get_or-map-range_with_len (λ k. get_or zs k (pos 0)) lo m i (lo + i) (pos 0)
    (omega arith) refl))

-- the bytes of one list more, of m items from a on
pub moved_next : (s t c p : Column) (i a m : ℕ) (old b : List ℕ)
    → range_with_len a m ≡ span_at s t i → a + m ≤ size_of c → p ≡ cut_of c a (a + m)
    → length b ≡ size_of p * width p.kind → numbers p.kind (size_of p) b ≡ p.items
    → AreBytesOf c.kind (numbers_at c (first_of (span_at s t) i)).items old
    → AreBytesOf c.kind (numbers_at c (first_of (span_at s t) (i + 1))).items (old ++ b)
moved_next s t c p i a m old b e w q l n h =
    let f : ℕ → ℤ = λ k. get_or c.items k (pos 0) in
    let part : p.items ≡ map f (range_with_len a m) =
    ap (λ (x : Column). x.items) q ∙ slice-at c.items a m w in
    let kind : p.kind ≡ c.kind = ap (λ (x : Column). x.kind) q in
    let all : (numbers_at c (first_of (span_at s t) (i + 1))).items
    ≡ (numbers_at c (first_of (span_at s t) i)).items ++ p.items =
    ap (map f) (first_of-more (span_at s t) i)
    ∙ map-append f (first_of (span_at s t) i) (span_at s t i)
    ∙ ap (λ zs. map f (first_of (span_at s t) i) ++ zs) (ap (map f) (sym e) ∙ sym part) in
    subst (λ zs. AreBytesOf c.kind zs (old ++ b)) (sym all)
    (bytes_more c.kind (numbers_at c (first_of (span_at s t) i)).items p.items old b
    (l ∙ ap (λ k. size_of p * width k) kind)
    (ap (λ k. numbers k (size_of p) b) (sym kind) ∙ n) h)

-- ---- the lane

-- numbers at places are what is reached
pub numbers_reached : (c r : Column) (ks : List ℕ) → r ≡ numbers_at c ks
    → IsReached (flat c) ks (flat r)
numbers_reached c r ks e =
    subst (λ m. IsReached (flat c) ks (flat m)) (sym e)
    record { typ = refl; items = array_items-at (flat m) ∙ sym values }
  where
    m : Column
    m = numbers_at c ks

    f : ℕ → ℤ
    f k = get_or c.items k (pos 0)

    size : length (map (array_item (flat c)) ks) ≡ size_of m
    size = length-map ks (array_item (flat c)) ∙ sym (length-map ks f)

    each : (j : ℕ) → j < size_of m
        → get_or (map (array_item (flat c)) ks) j null ≡ array_item (flat m) j
    each j l =
        let l' : j < length ks = omega (arith, length-map ks f) in
        get_or-map (array_item (flat c)) ks j 0 null l'
        ∙ ap (λ z. leaf_value c.kind (element c.kind z)) (sym (get_or-map f ks j 0 (pos 0) l'))

    values : map (array_item (flat c)) ks ≡ map (array_item (flat m)) (range_with_len 0 (size_of m))
    values =
        fill_by_all (array_item (flat m)) (map (array_item (flat c)) ks) (size_of m) null size each

-- numbers at places that are named are those reached
pub named_reached : (x z : Layout) (c : Column) (ks : List ℕ) → x ≡ flat c
    → z ≡ flat (numbers_at c ks) → IsReached x ks z
named_reached x z c ks e f =
    subst (λ (y : Layout). IsReached y ks z) (sym e)
    (subst (IsReached (flat c) ks) (sym f) (numbers_reached c (numbers_at c ks) ks refl))
