-- Where the places of lists lie, and lanes of the places of their tuples.
use Rattle.std.specs.Prelude.{◌≡◌, ◌==◌, refl, ℕ, ◌+◌, ◌-◌, ◌<◌, ◌≤◌, Bool, false, if◌then◌else◌}
use Rattle.std.specs.Prelude.{[], map, length, get_or, ℤ, pos, negsuc, ◌≤ℤ◌}
use Rattle.std.specs.List.{range_with_len, AllByRecursion}
use Rattle.std.proofs.Common.{arith, ap, ap₂, sym, ◌∙◌, subst}
use Rattle.std.proofs.lemmas.Int.{ints}
use Rattle.awk_base.proofs.Ranges.{map-same}
use Rattle.awk_types.specs.ItemLimit.{item_limit}
use Rattle.awk_lanes.specs.declared.kind.Kind.TheVariants.{I64}
use Rattle.awk_lanes.specs.Column.{Column}
use Rattle.awk_lanes.specs.Counted.{before, offsets_by, numbers_of_lists}
use Rattle.awk_lanes.specs.Numbers.{nat_of}
use Rattle.awk_lanes.specs.Places.{size_of, at, place_at, AreSpans, IsSpan}
use Rattle.awk_lanes.proofs.CountedLanes.{length-numbers, before-same}
use Rattle.awk_lanes.proofs.MadeLanes.{size-lane_of, at-lane_of}
use Rattle.awk_counts.proofs.ListLaws.{numbers-all}
use Rattle.awk_layout.specs.Layout.{Layout}
use Rattle.awk_layout.specs.Valid.{len}
use Rattle.awk_columns.specs.Lists.{AreLists, span_length}
use Rattle.awk_columns.specs.ListClass.{Class}
use Rattle.awk_places.specs.Places.{rising_places}
use Rattle.awk_places.specs.Slots as of_lanes
use Rattle.awk_places.proofs.BegunLaws.{IsLong, AreBelow, all_long, all_below}
use Rattle.awk_places.proofs.FlatLaws.{flat-same-range, numbers-flat, all-at}
use Rattle.awk_places.proofs.RisingLaws.{rising_places-from}
use Rattle.awk_combi.specs.Slots.{IsSlotLane}
use Rattle.awk_combi.specs.Spans.{first_place, end_place, first_lane, end_lane, tuples_at, count_at}
use Rattle.awk_combi.specs.Spans.{place_in, slot_lane, slot_lanes}

-- ---- counts and numbers that are the same for the lists there are

numbers-same : (m n : ℕ → ℕ) (g h : ℕ → ℕ → ℤ) (k : ℕ) → ((i : ℕ) → i < k → m i ≡ n i)
    → ((i j : ℕ) → i < k → g i j ≡ h i j) → numbers_of_lists m g k ≡ numbers_of_lists n h k
numbers-same m n g h k e f =
    numbers-flat m g k
    ∙ flat-same-range (λ i. map (g i) (range_with_len 0 (m i)))
    (λ i. map (h i) (range_with_len 0 (n i))) 0 k
    (λ i p q. map-same (g i) (h i) 0 (m i) (λ j r s. f i j (omega (arith, q)))
    ∙ ap (λ d. map (h i) (range_with_len 0 d)) (e i (omega (arith, q))))
    ∙ sym (numbers-flat n h k)

-- ---- lanes of first places and ends

module _ (places : Bool) (s t : Column) where
  pub size-first : size_of (first_lane places s t) ≡ size_of s
  size-first = size-lane_of I64 (size_of s) (λ i. pos (first_place places s t i))

  size-end : size_of (end_lane places s t) ≡ size_of s
  size-end = size-lane_of I64 (size_of s) (λ i. pos (end_place places s t i))

  at-first : (i : ℕ) → i < size_of s → at (first_lane places s t) i ≡ pos (first_place places s t i)
  at-first i p = at-lane_of I64 (size_of s) (λ i. pos (first_place places s t i)) i p

  at-end : (i : ℕ) → i < size_of s → at (end_lane places s t) i ≡ pos (end_place places s t i)
  at-end i p = at-lane_of I64 (size_of s) (λ i. pos (end_place places s t i)) i p

  pub are_places : of_lanes.ArePlaces (first_lane places s t) (end_lane places s t)
  are_places = record {
    first_kind = refl;
    end_kind = refl;
    same_size = size-first ∙ sym size-end;
    ordered = λ i p.
        let q : i < size_of s = omega (arith, p, size-first) in
        rw (at-first i q, at-end i q) (omega (arith, ints), omega (arith, ints));
  }

  module _ (rep : Bool) (n : ℕ) where
    same_span : (i : ℕ) → i < size_of s
        → place_at (end_lane places s t) i - place_at (first_lane places s t) i ≡ span_length s t i
    same_span i p =
        let a : place_at (first_lane places s t) i ≡ first_place places s t i =
        ap nat_of (at-first i p) in
        let b : place_at (end_lane places s t) i ≡ end_place places s t i =
        ap nat_of (at-end i p) in
        omega (arith, a, b)

    same_tuples : (i : ℕ) → i < size_of s
        → of_lanes.tuples_of rep n (first_lane places s t) (end_lane places s t) i
        ≡ tuples_at rep n s t i
    same_tuples i p = ap (rising_places rep n) (same_span i p)

    pub same_count : (i : ℕ) → i < size_of s
        → of_lanes.tuple_count rep n (first_lane places s t) (end_lane places s t) i
        ≡ count_at rep n s t i
    same_count i p = ap length (same_tuples i p)

    pub counts : before (of_lanes.tuple_count rep n (first_lane places s t) (end_lane places s t))
        (size_of (first_lane places s t)) ≡ before (count_at rep n s t) (size_of s)
    counts =
        ap (before (of_lanes.tuple_count rep n (first_lane places s t) (end_lane places s t)))
        size-first
        ∙ before-same (of_lanes.tuple_count rep n (first_lane places s t) (end_lane places s t))
        (count_at rep n s t) (size_of s) same_count

    pub same_offsets :
        offsets_by (of_lanes.tuple_count rep n (first_lane places s t) (end_lane places s t))
        (size_of (first_lane places s t)) ≡ offsets_by (count_at rep n s t) (size_of s)
    same_offsets =
        let m : ℕ → ℕ =
        of_lanes.tuple_count rep n (first_lane places s t) (end_lane places s t) in
        ap (offsets_by m) size-first
        ∙ ap (λ zs. record { kind = I64; items = zs })
        (map-same (λ i. pos (before m i)) (λ i. pos (before (count_at rep n s t) i)) 0
        (size_of s + 1)
        (λ i p q. ap (λ d. pos d) (before-same m (count_at rep n s t) i
        (λ j r. same_count j (omega (arith, q, r))))))

    same_slot : (j : ℕ)
        → of_lanes.slot_lane rep n (first_lane places s t) (end_lane places s t) j
        ≡ slot_lane places rep n s t j
    same_slot j =
        let m : ℕ → ℕ =
        of_lanes.tuple_count rep n (first_lane places s t) (end_lane places s t) in
        let g : ℕ → ℕ → ℤ =
        of_lanes.slot_place rep n (first_lane places s t) (end_lane places s t) j in
        ap (λ zs. record { kind = I64; items = zs })
        (ap (numbers_of_lists m g) size-first
        ∙ numbers-same m (count_at rep n s t) g (place_in places rep n s t j) (size_of s) same_count
        (λ i k p. ap₂ (λ a ts. pos (a + get_or (get_or ts k []) j 0)) (ap nat_of (at-first i p))
        (same_tuples i p)))

    pub same_slots : of_lanes.slot_lanes rep n (first_lane places s t) (end_lane places s t)
        ≡ slot_lanes places rep n s t
    same_slots =
        map-same (of_lanes.slot_lane rep n (first_lane places s t) (end_lane places s t))
        (slot_lane places rep n s t) 0 n (λ j p q. same_slot j)

-- ---- places within their lists

module _ (rep : Bool) (n m : ℕ) where
  pub tuple_long : (k : ℕ) → k < length (rising_places rep n m)
      → length (get_or (rising_places rep n m) k []) ≡ n
  tuple_long k p =
      all-at (IsLong n) [] (rising_places rep n m) k p
      (subst (AllByRecursion (IsLong n)) (sym (rising_places-from rep n m)) (all_long rep n 0 m))

  pub tuple_below : (k j : ℕ) → k < length (rising_places rep n m) → j < n
      → get_or (get_or (rising_places rep n m) k []) j 0 < m
  tuple_below k j p q =
      all-at (λ i. i < m) 0 (get_or (rising_places rep n m) k []) j
      (omega (arith, tuple_long k p, q))
      (all-at (AreBelow m) [] (rising_places rep n m) k p
      (subst (AllByRecursion (AreBelow m)) (sym (rising_places-from rep n m))
      (all_below rep n 0 m)))

-- a list that is not empty ends within the content
pub within : (s t : Column) (n i : ℕ) → AreSpans s t n → i < size_of s → 0 < span_length s t i
    → place_at s i + span_length s t i ≤ n
within s t n i h p q = go (at s i) (at t i) (h.ordered i p) q
  where
    go : (x y : ℤ) → IsSpan n x y → 0 < nat_of y - nat_of x
        → nat_of x + (nat_of y - nat_of x) ≤ n
    go (pos a) (pos b) o l =
        let d = o (λ e. omega (arith, ap nat_of e, l)) in omega (arith, ints, d.1, d.2)
    go (pos a) (negsuc b) o l = absurd (omega (arith, l))
    go (negsuc a) (pos b) o l =
        let d = o (λ e. omega (arith, ap nat_of e, l)) in absurd (omega (arith, ints, d.0))
    go (negsuc a) (negsuc b) o l = absurd (omega (arith, l))

pub first-full : (s t : Column) (i : ℕ) → 0 < span_length s t i
    → first_place false s t i ≡ place_at s i
first-full s t i p =
    let e : (span_length s t i == 0) ≡ false = grind (arith, p) in
    ap (λ b. if b then 0 else place_at s i) e

pub size-slot : (places rep : Bool) (n : ℕ) (s t : Column) (j : ℕ)
    → size_of (slot_lane places rep n s t j) ≡ before (count_at rep n s t) (size_of s)
size-slot places rep n s t j =
    length-numbers (count_at rep n s t) (place_in places rep n s t j) (size_of s)

pub is_slot_lane : (places rep : Bool) (n : ℕ) (class : Class) (s t : Column) (y : Layout)
    → AreLists class s t y → before (count_at rep n s t) (size_of s) ≤ item_limit
    → (j : ℕ) → j < n → IsSlotLane places (len y) (slot_lane places rep n s t j)
is_slot_lane places rep n class s t y h few j q = record {
  few = omega (arith, size-slot places rep n s t j, few);
  kind = refl;
  positive = λ i p. all-at (λ z. pos 0 ≤ℤ z) (pos 0) (slot_lane places rep n s t j).items i p
      (numbers-all (λ z. pos 0 ≤ℤ z) (count_at rep n s t) (place_in places rep n s t j) (size_of s)
      (λ i k r u. omega (arith, ints)));
  within = λ e. record {
    kind = tt;
    places = λ i p. all-at (λ z. (pos 0 ≤ℤ z) × (nat_of z < len y)) (pos 0)
        (slot_lane places rep n s t j).items i p
        (numbers-all (λ z. (pos 0 ≤ℤ z) × (nat_of z < len y)) (count_at rep n s t)
        (place_in places rep n s t j) (size_of s)
        (λ i k r u. (
          omega (arith, ints),
          below e i (get_or (get_or (tuples_at rep n s t i) k []) j 0) r
              (tuple_below rep n (span_length s t i) k j u q),
        )));
  };
}
  where
    below : places ≡ false → (i x : ℕ) → i < size_of s → x < span_length s t i
        → first_place places s t i + x < len y
    below e i x r l =
        let f : first_place places s t i ≡ place_at s i =
        ap (λ b. first_place b s t i) e ∙ first-full s t i (omega (arith, l)) in
        omega (arith, f, within s t (len y) i h.spans r (omega (arith, l)), l)

-- ---- the same of lanes that are made

module _ (places rep : Bool) (n : ℕ) (s t f e : Column) (p : f ≡ first_lane places s t)
    (q : e ≡ end_lane places s t) where
  pub made_places : of_lanes.ArePlaces f e
  made_places = rw (p, q) (are_places places s t)

  pub made_size : size_of f ≡ size_of s
  made_size = ap size_of p ∙ size-first places s t

  pub made_counts : before (of_lanes.tuple_count rep n f e) (size_of f)
      ≡ before (count_at rep n s t) (size_of s)
  made_counts = rw (p, q) (counts places s t rep n)

  pub made_offsets : offsets_by (of_lanes.tuple_count rep n f e) (size_of f)
      ≡ offsets_by (count_at rep n s t) (size_of s)
  made_offsets = rw (p, q) (same_offsets places s t rep n)

  pub made_slots : of_lanes.slot_lanes rep n f e ≡ slot_lanes places rep n s t
  made_slots = rw (p, q) (same_slots places s t rep n)
