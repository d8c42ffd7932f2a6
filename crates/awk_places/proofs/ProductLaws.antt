-- Lanes of the slots of tuples of one place of each of several lists, slot after slot.
use Rattle.std.specs.Prelude.{◌≡◌, refl, ℕ, ◌+◌, ◌<◌, pos, List, [], ◌∷◌, ◌++◌, length, map, get_or}
use Rattle.std.specs.List.{range_with_len, flat_map}
use Rattle.std.proofs.Common.{arith, ap, ap₂, sym, ◌∙◌, subst}
use Rattle.std.proofs.lemmas.Int.{ints}
use Rattle.std.proofs.lemmas.List.{length-map, get_or-map}
use Rattle.std.proofs.lemmas.List.FromFn.{map-range_with_len_more}
use Rattle.std.proofs.lemmas.Simd.{map-map}
use Rattle.awk_lanes.specs.declared.kind.Kind.TheVariants.{I64}
use Rattle.awk_lanes.specs.Column.{Column, no_places}
use Rattle.awk_lanes.specs.Made.{lane_of}
use Rattle.awk_lanes.specs.Numbers.{nat_of}
use Rattle.awk_lanes.specs.Places.{place_at}
use Rattle.awk_lanes.specs.Words.{column, integers}
use Rattle.awk_lanes.proofs.MadeLanes.{size-lane_of, at-lane_of}
use Rattle.awk_places.specs.Places.{place_lists, place_count}
use Rattle.awk_places.specs.Products.{AreCounts, lengths_at, product_count, product_place}
use Rattle.awk_places.specs.Products.{product_lane, each_times, times, share, counts_lane}
use Rattle.awk_places.specs.Products.{shares_lane, once_lane, product_lanes}
use Rattle.awk_places.specs.Runs.{row_runs}
use Rattle.awk_places.proofs.FlatLaws.{map-flat, flat-same-range, map-in_place, numbers-flat}
use Rattle.awk_places.proofs.Levels.{length-place_lists}
use Rattle.awk_places.proofs.RunLaws.{IsRest, rest_first, rest_next, runs-by_rest, count_before}
use Rattle.awk_places.proofs.RunLaws.{count_after, slot-runs}

-- ---- lanes of counts

module _ (n : ℕ) (h : ℕ → ℕ) where
  pub are_counts : AreCounts n (lane_of I64 n (λ i. pos (h i)))
  are_counts = record {
    kind = refl;
    size = size-lane_of I64 n (λ i. pos (h i));
    positive = λ i p. rw (at-lane_of I64 n (λ i. pos (h i)) i p) (omega (arith, ints));
  }

  pub count-at : (i : ℕ) → i < n → place_at (lane_of I64 n (λ i. pos (h i))) i ≡ h i
  count-at i p = ap nat_of (at-lane_of I64 n (λ i. pos (h i)) i p)

pub length-at : (ls : List Column) (i j : ℕ) → j < length ls
    → get_or (lengths_at ls i) j 0 ≡ place_at (get_or ls j no_places) i
length-at ls i j p = get_or-map (λ s. place_at s i) ls j no_places 0 p

-- ---- one slot

module _ (n : ℕ) (ls : List Column) (j : ℕ) where
  slot-numbers : (f : Column) (g : ℕ → List ℕ)
      → ((i : ℕ) → i < n
      → g i ≡ map (λ ks. place_at f i + get_or ks j 0) (place_lists (lengths_at ls i)))
      → column I64 (integers (flat_map g (range_with_len 0 n))) ≡ product_lane n f ls j
  slot-numbers f g h =
      ap (column I64)
      (map-flat (λ (k : ℕ). pos k) g (range_with_len 0 n)
      ∙ flat-same-range (λ i. integers (g i))
      (λ i. map (product_place f ls j i) (range_with_len 0 (product_count ls i))) 0 n
      (λ i p q. ap integers (h i (omega (arith, q)))
      ∙ map-map (λ (k : ℕ). pos k) (λ (ks : List ℕ). place_at f i + get_or ks j 0)
      (place_lists (lengths_at ls i))
      ∙ sym (map-in_place [] (product_place f ls j i)
      (λ ks. pos (place_at f i + get_or ks j 0)) (place_lists (lengths_at ls i)) (λ k r. refl))
      ∙ ap (λ m. map (product_place f ls j i) (range_with_len 0 m))
      (length-place_lists (lengths_at ls i)))
      ∙ sym (numbers-flat (product_count ls) (product_place f ls j) n))

  -- what the slots from j on have of the tuples of each list
  abbrev pub AreRests : Column → Type 0
  AreRests r = (i : ℕ) → i < n → IsRest (lengths_at ls i) j (place_at r i)

  abbrev lengths : Column
  lengths = get_or ls j no_places

  long : (i : ℕ) → j < length ls → j < length (lengths_at ls i)
  long i p = omega (arith, p, length-map ls (λ s. place_at s i))

  -- the slot by its shares
  pub slot-by_shares : (f l b a c r : Column) → j < length ls → AreRests r
      → c ≡ counts_lane n ls → l ≡ lengths → b ≡ shares_lane n c r → a ≡ shares_lane n r l
      → column I64 (integers (flat_map (row_runs f l b a) (range_with_len 0 n)))
      ≡ product_lane n f ls j
  slot-by_shares f l b a c r p h e q u v =
      slot-numbers f (row_runs f l b a)
      (λ i o.
      let ms : List ℕ = lengths_at ls i in
      let m : place_at l i ≡ get_or ms j 0 =
      ap (λ c. place_at c i) q ∙ sym (length-at ls i j p) in
      let k : place_at c i ≡ place_count ms =
      ap (λ c. place_at c i) e ∙ count-at n (product_count ls) i o in
      let x : place_at b i ≡ share (place_count ms) (place_at r i) =
      ap (λ c. place_at c i) u
      ∙ count-at n (λ i. share (place_at c i) (place_at r i)) i o
      ∙ ap (λ k. share k (place_at r i)) k in
      let y : place_at a i ≡ share (place_at r i) (get_or ms j 0) =
      ap (λ c. place_at c i) v
      ∙ count-at n (λ i. share (place_at r i) (place_at l i)) i o
      ∙ ap (share (place_at r i)) m in
      ap₂ (λ b xs. times b xs) x (ap₂ (λ a l. each_times a (place_at f i) l) y m)
      ∙ runs-by_rest ms j (place_at r i) (place_at f i) (long i p) (h i o))

pub rests_first : (n : ℕ) (ls : List Column) (r : Column) → r ≡ counts_lane n ls
    → AreRests n ls 0 r
rests_first n ls r e i p =
    rest_first (lengths_at ls i) (place_at r i)
    (ap (λ c. place_at c i) e ∙ count-at n (product_count ls) i p)

pub rests_next : (n : ℕ) (ls : List Column) (j : ℕ) (r a : Column) → j < length ls
    → AreRests n ls j r → a ≡ shares_lane n r (get_or ls j no_places) → AreRests n ls (j + 1) a
rests_next n ls j r a p h e i l =
    let ms : List ℕ = lengths_at ls i in
    let v : place_at a i ≡ share (place_at r i) (get_or ms j 0) =
    ap (λ c. place_at c i) e
    ∙ count-at n (λ i. share (place_at r i) (place_at (get_or ls j no_places) i)) i l
    ∙ ap (share (place_at r i)) (sym (length-at ls i j p)) in
    rw v (rest_next ms j (place_at r i)
    (omega (arith, p, length-map ls (λ s. place_at s i))) (h i l))

-- ---- slot after slot

pub counts_made : (n : ℕ) (c r : Column) (h : ℕ → ℕ) → c ≡ lane_of I64 n (λ i. pos (h i)) → r ≡ c
    → AreCounts n r
counts_made n c r h e p = subst (AreCounts n) (sym (p ∙ e)) (are_counts n h)

-- the lanes of the first j slots
abbrev pub first_lanes : ℕ → List Column → List Column → ℕ → List Column
first_lanes n fs ls j =
    map (λ j. product_lane n (get_or fs j no_places) ls j) (range_with_len 0 j)

pub lanes_more : (n : ℕ) (fs ls : List Column) (j : ℕ) (xs ys : List Column) (x : Column)
    → xs ≡ first_lanes n fs ls j → x ≡ product_lane n (get_or fs j no_places) ls j
    → ys ≡ xs ++ x ∷ [] → ys ≡ first_lanes n fs ls (j + 1)
lanes_more n fs ls j xs ys x p q r =
    let z : 0 + j ≡ j = omega arith in
    r ∙ ap₂ (λ us u. us ++ u ∷ []) p q
    ∙ sym (map-range_with_len_more (λ j. product_lane n (get_or fs j no_places) ls j) 0 j j z)

-- ---- both slots of pairs

-- a slot by its runs
abbrev pub by_runs : ℕ → Column → Column → Column → Column → Column
by_runs n f l b a =
    column I64 (integers (flat_map (row_runs f l b a) (range_with_len 0 n)))

-- the first by the lengths of the second
first-by_runs : (n : ℕ) (f l m : Column)
    → by_runs n f l (once_lane n) m ≡ product_lane n f (l ∷ m ∷ []) 0
first-by_runs n f l m =
    slot-numbers n (l ∷ m ∷ []) 0 f (row_runs f l (once_lane n) m)
    (λ i o.
    let ms : List ℕ = place_at l i ∷ place_at m i ∷ [] in
    let once : place_at (once_lane n) i ≡ count_before ms 0 = count-at n (λ i. 1) i o in
    let after : place_at m i ≡ count_after ms 0 = omega arith in
    ap₂ (λ b a. times b (each_times a (place_at f i) (place_at l i))) once after
    ∙ sym (slot-runs ms 0 (place_at f i) (omega arith)))

-- the second by those of the first
second-by_runs : (n : ℕ) (f l m : Column)
    → by_runs n f m l (once_lane n) ≡ product_lane n f (l ∷ m ∷ []) 1
second-by_runs n f l m =
    slot-numbers n (l ∷ m ∷ []) 1 f (row_runs f m l (once_lane n))
    (λ i o.
    let ms : List ℕ = place_at l i ∷ place_at m i ∷ [] in
    let once : place_at (once_lane n) i ≡ count_after ms 1 = count-at n (λ i. 1) i o in
    let before : place_at l i ≡ count_before ms 1 = omega arith in
    ap₂ (λ b a. times b (each_times a (place_at f i) (place_at m i))) before once
    ∙ sym (slot-runs ms 1 (place_at f i) (omega arith)))

pub pair-by_runs : (n : ℕ) (fs ls : List Column) (f g l m : Column) → length ls ≡ 2
    → get_or fs 0 no_places ≡ f → get_or fs 1 no_places ≡ g → get_or ls 0 no_places ≡ l
    → get_or ls 1 no_places ≡ m
    → by_runs n f l (once_lane n) m ∷ by_runs n g m l (once_lane n) ∷ [] ≡ product_lanes n fs ls
pair-by_runs n fs [] f g l m two p q r s = absurd (omega (arith, two))
pair-by_runs n fs (a ∷ []) f g l m two p q r s = absurd (omega (arith, two))
pair-by_runs n fs (a ∷ b ∷ []) f g l m two p q r s =
    rw (← p, ← q, ← r, ← s)
    (ap₂ (λ x y. x ∷ y ∷ []) (first-by_runs n (get_or fs 0 no_places) a b)
    (second-by_runs n (get_or fs 1 no_places) a b))
pair-by_runs n fs (a ∷ b ∷ c ∷ ls) f g l m two p q r s = absurd (omega (arith, two))
