-- The places in the slots of tuples, and what stands there.
use Rattle.std.specs.Prelude.{◌≡◌, refl, ℕ, zero, suc, ◌+◌, ◌<◌, Bool, true, false, List, [], ◌∷◌}
use Rattle.std.specs.Prelude.{◌++◌, length, map, get_or, replicate, pos, ◌≤ℤ◌, nat_lt}
use Rattle.std.specs.List.{range_with_len, AllByRecursion}
use Rattle.std.proofs.Common.{arith, ap, sym, ◌∙◌, subst, ltb-true}
use Rattle.std.proofs.lemmas.Bool.{ltb-false}
use Rattle.std.proofs.lemmas.Int.{ints}
use Rattle.std.proofs.lemmas.List.{get_or-replicate, length-append, get_or_append_left, get_or_push}
use Rattle.std.proofs.lemmas.List.FromFn.{get_or-map-range_with_len, length-map-range_with_len}
use Rattle.std.proofs.lemmas.Simd.{map-map}
use Rattle.awk_base.proofs.Ranges.{map-same}
use Rattle.awk_types.specs.Value.{int}
use Rattle.awk_lanes.specs.Column.{Column, no_places}
use Rattle.awk_lanes.specs.Counted.{before}
use Rattle.awk_lanes.specs.Numbers.{nat_of}
use Rattle.awk_lanes.specs.Places.{place_at}
use Rattle.awk_lanes.proofs.CountedLanes.{length-numbers, numbers-at, before_mono, before-next}
use Rattle.awk_counts.proofs.ListLaws.{numbers-all}
use Rattle.awk_layout.specs.Layout.{Layout, empty}
use Rattle.awk_layout.specs.Valid.{len}
use Rattle.awk_layout.proofs.Runs.{length-run, get-run}
use Rattle.awk_gather.specs.Arrays.{array_item}
use Rattle.awk_places.specs.Places.{place_lists}
use Rattle.awk_places.specs.Products.{AreCounts, AreSpansOf, lengths_at, product_count}
use Rattle.awk_places.specs.Products.{product_place, product_lane, product_lanes}
use Rattle.awk_places.proofs.FlatLaws.{map-in_place, all-at}
use Rattle.awk_places.proofs.PlaceLists.{tuple-at}
use Rattle.awk_places.proofs.ProductLaws.{are_counts, count-at, length-at}
use Rattle.awk_combi.specs.Combinations.{slot_value}
use Rattle.awk_combi.specs.Slots.{IsSlotLane, IsSlot, slot_item}
use Rattle.awk_products.specs.Slots.{AreSlotLanes, AreSlots, IsFew}
use Rattle.awk_products.specs.Sources.{AreSources, list_in, lists_in, zeros, slot_firsts}
use Rattle.awk_products.specs.declared.sources.Sources.{Sources}

-- what holds at each place holds of all
pub all-by_place : {X : Type 0} (P : X → Type 0) (d : X) (xs : List X)
    → ((j : ℕ) → j < length xs → P (get_or xs j d)) → AllByRecursion P xs
all-by_place P d [] h = tt
all-by_place P d (x ∷ xs) h =
    (h 0 (omega arith), all-by_place P d xs (λ j p. h (suc j) (omega (arith, p))))

pub replicate-more : {X : Type 0} (x : X) (n : ℕ) → replicate (n + 1) x ≡ replicate n x ++ x ∷ []
replicate-more x n = (let e : n + 1 ≡ suc n = omega arith in ap (λ k. replicate k x) e) ∙ go n
  where
    go : (n : ℕ) → replicate (suc n) x ≡ replicate n x ++ x ∷ []
    go zero = refl
    go (suc n) = ap (λ xs. x ∷ xs) (go n)

-- ---- lengths and first places

module _ (n : ℕ) (x : Sources) (h : AreSources n x) where
  pub lengths-of : (i : ℕ) → map length (lists_in x i) ≡ lengths_at x.lengths i
  lengths-of i =
      map-map length (list_in x i) (range_with_len 0 (length x.contents))
      ∙ map-same (λ j. length (list_in x i j)) (λ j. place_at (get_or x.lengths j no_places) i) 0
      (length x.contents)
      (λ j p q. length-run (array_item (get_or x.contents j empty))
      (place_at (get_or x.firsts j no_places) i) (place_at (get_or x.lengths j no_places) i))
      ∙ ap (λ m. map (λ j. place_at (get_or x.lengths j no_places) i) (range_with_len 0 m))
      (sym h.lengths)
      ∙ map-in_place no_places (λ j. place_at (get_or x.lengths j no_places) i) (λ s. place_at s i)
      x.lengths (λ j p. refl)

  pub all_counts : AllByRecursion (AreCounts n) x.lengths
  all_counts =
      all-by_place (AreCounts n) no_places x.lengths
      (λ j p. (h.each j (omega (arith, p, h.lengths))).spans.lengths)

  pub spans_there : (j : ℕ) → j < length x.lengths
      → AreSpansOf n (get_or x.firsts j no_places) (get_or x.lengths j no_places)
  spans_there j p = (h.each j (omega (arith, p, h.lengths))).spans

  pub zeros_there : (j : ℕ) → j < length x.lengths
      → AreSpansOf n (get_or (replicate (length x.firsts) (zeros n)) j no_places)
      (get_or x.lengths j no_places)
  zeros_there j p =
      let s = spans_there j p in
      subst (λ f. AreSpansOf n f (get_or x.lengths j no_places))
      (sym (get_or-replicate (length x.firsts) j (zeros n) no_places
      (omega (arith, p, h.firsts, h.lengths))))
      (record {
        firsts = are_counts n (λ i. 0);
        lengths = s.lengths;
        fits = λ i q. omega (arith, count-at n (λ i. 0) i q, s.fits i q);
      })

  pub lanes_zero : (k : ℕ) (fs : List Column) → k ≡ length x.firsts → fs ≡ replicate k (zeros n)
      → (j : ℕ) → j < length x.lengths
      → AreSpansOf n (get_or fs j no_places) (get_or x.lengths j no_places)
  lanes_zero k fs e f j p =
      subst (λ gs. AreSpansOf n (get_or gs j no_places) (get_or x.lengths j no_places))
      (sym (f ∙ ap (λ k. replicate k (zeros n)) e)) (zeros_there j p)

  -- ---- the lane of a slot

  module _ (places : Bool) where
    abbrev firsts : List Column
    firsts = slot_firsts places n x.firsts

    abbrev lane : ℕ → Column
    lane j = product_lane n (get_or firsts j no_places) x.lengths j

    abbrev count : ℕ → ℕ
    count = product_count x.lengths

    pub lanes-count : length (product_lanes n firsts x.lengths) ≡ length x.contents
    lanes-count = length-map-range_with_len lane 0 (length x.lengths) ∙ h.lengths

    pub lane-at : (j : ℕ) → j < length x.contents
        → get_or (product_lanes n firsts x.lengths) j no_places ≡ lane j
    lane-at j p =
        get_or-map-range_with_len lane 0 (length x.lengths) j j no_places
        (omega (arith, p, h.lengths)) (omega arith)

    first-zero : (j i : ℕ) → places ≡ true → j < length x.contents → i < n
        → place_at (get_or firsts j no_places) i ≡ 0
    first-zero j i e p q =
        ap (λ b. place_at (get_or (slot_firsts b n x.firsts) j no_places) i) e
        ∙ ap (λ c. place_at c i) (get_or-replicate (length x.firsts) j (zeros n) no_places
        (omega (arith, p, h.firsts)))
        ∙ count-at n (λ i. 0) i q

    first-own : (j i : ℕ) → places ≡ false
        → place_at (get_or firsts j no_places) i ≡ place_at (get_or x.firsts j no_places) i
    first-own j i e = ap (λ b. place_at (get_or (slot_firsts b n x.firsts) j no_places) i) e

    -- the place in slot j of tuple k of list i
    abbrev place : ℕ → ℕ → ℕ → ℕ
    place j i k = get_or (get_or (place_lists (lengths_at x.lengths i)) k []) j 0

    pub place_below : (j i k : ℕ) → j < length x.contents → k < count i
        → place j i k < place_at (get_or x.lengths j no_places) i
    place_below j i k p q =
        let ms : List ℕ = lengths_at x.lengths i in
        let l : j < length x.lengths = omega (arith, p, h.lengths) in
        let m : length ms ≡ length x.lengths = length-lengths in
        let b = (tuple-at ms k q).below j (omega (arith, l, m)) in
        omega (arith, b, length-at x.lengths i j l)
      where
        length-lengths : length (lengths_at x.lengths i) ≡ length x.lengths
        length-lengths = length-map-lengths x.lengths
          where
            length-map-lengths : (ss : List Column)
                → length (map (λ s. place_at s i) ss) ≡ length ss
            length-map-lengths [] = refl
            length-map-lengths (s ∷ ss) = ap suc (length-map-lengths ss)

    pub is_lane : IsFew n x → (j : ℕ) → j < length x.contents
        → IsSlotLane places (len (get_or x.contents j empty)) (lane j)
    is_lane few j p = record {
      few = omega (
        arith,
        length-numbers count (product_place (get_or firsts j no_places) x.lengths j) n,
        few,
      );
      kind = refl;
      positive = λ i l. all-at (λ z. pos 0 ≤ℤ z) (pos 0) (lane j).items i l
          (numbers-all (λ z. pos 0 ≤ℤ z) count
          (product_place (get_or firsts j no_places) x.lengths j) n
          (λ i k r u. omega (arith, ints)));
      within = λ e. record {
        kind = tt;
        places = λ i l. all-at
            (λ z. (pos 0 ≤ℤ z) × (nat_of z < len (get_or x.contents j empty)))
            (pos 0) (lane j).items i l
            (numbers-all (λ z. (pos 0 ≤ℤ z) × (nat_of z < len (get_or x.contents j empty)))
            count (product_place (get_or firsts j no_places) x.lengths j) n
            (λ i k r u. (
              omega (arith, ints),
              omega (
                arith,
                first-own j i e,
                (h.each j p).within i r,
                place_below j i k p u,
              ),
            )));
      };
    }

    -- ---- what stands in it

    pub place-in : (j i k : ℕ) → i < n → k < count i
        → place_at (lane j) (before count i + k)
        ≡ place_at (get_or firsts j no_places) i + place j i k
    place-in j i k p q =
        ap nat_of
        (numbers-at count (product_place (get_or firsts j no_places) x.lengths j) i k n p q)

    pub within_all : (i k : ℕ) → i < n → k < count i → before count i + k < before count n
    within_all i k p q =
        omega (arith, before-next count i, before_mono count (i + 1) n (omega (arith, p)), q)

    shown : (b : Bool) → places ≡ b → (j i k : ℕ) → j < length x.contents → i < n → k < count i
        → slot_item b (get_or x.contents j empty)
        (place_at (get_or firsts j no_places) i + place j i k)
        ≡ slot_value b (list_in x i j) (place j i k)
    shown true e j i k p q r =
        let z : place_at (get_or firsts j no_places) i + place j i k ≡ place j i k =
        omega (arith, first-zero j i e p q) in
        ap (λ m. int (pos m)) z
    shown false e j i k p q r =
        let y : Layout = get_or x.contents j empty in
        ap (λ f. array_item y (f + place j i k)) (first-own j i e)
        ∙ sym (get-run (array_item y) (place_at (get_or x.firsts j no_places) i)
        (place_at (get_or x.lengths j no_places) i) (place j i k) (place_below j i k p r))

    pub slot-at : (cs : List Column) (zs : List Layout) → cs ≡ product_lanes n firsts x.lengths
        → AreSlots places x.contents cs (length cs) zs → (j i k : ℕ) → j < length x.contents
        → i < n → k < count i
        → array_item (get_or zs j empty) (before count i + k)
        ≡ slot_value places (list_in x i j) (place j i k)
    slot-at cs zs e s j i k p q r =
        let c : get_or cs j no_places ≡ lane j = ap (λ cs. get_or cs j no_places) e ∙ lane-at j p in
        let l : j < length cs = omega (arith, p, ap length e, lanes-count) in
        let z : IsSlot places (get_or x.contents j empty) (lane j) (get_or zs j empty) =
        subst (λ c. IsSlot places (get_or x.contents j empty) c (get_or zs j empty)) c
        (s.each j l) in
        z.items (before count i + k)
        (omega (
          arith,
          length-numbers count (product_place (get_or firsts j no_places) x.lengths j) n,
          within_all i k q r,
        ))
        ∙ ap (slot_item places (get_or x.contents j empty)) (place-in j i k q r)
        ∙ shown places refl j i k p q r

module _ (n : ℕ) (x : Sources) (h : AreSources n x) (places : Bool) (cs : List Column)
    (e : cs ≡ product_lanes n (slot_firsts places n x.firsts) x.lengths) where
  pub lanes_long : length cs ≡ length x.contents
  lanes_long = ap length e ∙ lanes-count n x h places

  pub are_lanes : IsFew n x → AreSlotLanes places x.contents cs
  are_lanes few j p =
      let l : j < length x.contents = omega (arith, p, lanes_long) in
      subst (IsSlotLane places (len (get_or x.contents j empty)))
      (sym (ap (λ cs. get_or cs j no_places) e ∙ lane-at n x h places j l))
      (is_lane n x h places few j l)

-- ---- slot after slot

pub one_more : (places : Bool) (ys : List Layout) (cs : List Column) (j : ℕ) (zs : List Layout)
    (z : Layout) → AreSlots places ys cs j zs
    → IsSlot places (get_or ys j empty) (get_or cs j no_places) z
    → AreSlots places ys cs (j + 1) (zs ++ z ∷ [])
one_more places ys cs j zs z h s = record {
  count = omega (arith, length-append zs (z ∷ []), h.count);
  each = λ i p. go i p (nat_lt i j) refl;
}
  where
    go : (i : ℕ) → i < j + 1 → (b : Bool) → nat_lt i j ≡ b
        → IsSlot places (get_or ys i empty) (get_or cs i no_places)
        (get_or (zs ++ z ∷ []) i empty)
    go i p true e =
        let l : i < j = ltb-true i j e in
        subst (IsSlot places (get_or ys i empty) (get_or cs i no_places))
        (sym (get_or_append_left zs (z ∷ []) empty i (omega (arith, l, h.count)))) (h.each i l)
    go i p false e =
        let q : i ≡ j = omega (arith, p, ltb-false i j e) in
        rw q (subst (IsSlot places (get_or ys j empty) (get_or cs j no_places))
        (sym (get_or_push zs z empty j h.count)) s)
