-- Lists joined: their items and offsets, by the places of the items.
use Rattle.std.proofs.Common.{◌≡◌, ℕ, suc, zero, ◌+◌, ◌-◌, ◌<◌, ◌≤◌, ◌^◌, List, [], ◌∷◌, ◌++◌, map}
use Rattle.std.proofs.Common.{length, arith, refl, ap, ap₂, sym, ◌∙◌, subst}
use Rattle.std.specs.Prelude.{ℤ, pos, negsuc, Ok, Err, slice_range}
use Rattle.std.specs.List.{range_with_len, flat_map}
use Rattle.std.proofs.lemmas.Int.{ints}
use Rattle.std.proofs.lemmas.List.{length-append, length-map, map-append}
use Rattle.std.proofs.lemmas.List.FromFn.{length-range_with_len, get_or-range_with_len}
use Rattle.std.proofs.lemmas.List.FromFn.{map-range_with_len_more}
use Rattle.awk_types.specs.Datum.{arr}
use Rattle.awk_types.specs.Gives.{refused_or}
use Rattle.awk_types.specs.Value.{Value, list}
use Rattle.awk_types.specs.ItemLimit.{item_limit, too_many}
use Rattle.awk_types.specs.declared.fault.Fault.TheVariants.{Size}
use Rattle.awk_types.proofs.ItemLimits.{over_limit, within_limit}
use Rattle.awk_lanes.specs.declared.kind.Kind.TheVariants.{I64}
use Rattle.awk_lanes.specs.Column.{Column}
use Rattle.awk_lanes.specs.Numbers.{nat_of}
use Rattle.awk_lanes.specs.Places.{at, size_of, place_at, AreSpans, IsSpan, IsIndex}
use Rattle.awk_layout.specs.Layout.{Layout}
use Rattle.awk_layout.specs.Valid.{len, IsValid}
use Rattle.awk_layout.specs.Item.{run}
use Rattle.awk_layout.proofs.Runs.{value_list-run, run-moved}
use Rattle.awk_layout.specs.Typing.{array_type, array_items, array_datum}
use Rattle.awk_gather.specs.Arrays.{array_item, IsGathered}
use Rattle.awk_columns.specs.Columns.{list_items, joined_items, offsets}
use Rattle.awk_counts.specs.Counted.{first_of, span_at, spans, places_lane, offset_at}
use Rattle.awk_counts.specs.Counted.{offsets_lane, AreBelow, IsRow}
use Rattle.awk_lanes.specs.Counted.{before, offsets_by}
use Rattle.awk_columns.specs.Lists.{span_length}
use Rattle.awk_columns.specs.ListValues.{list_at, list_values, joined_datum, AreJoined}
use Rattle.awk_columns.specs.Reached.{IsReached}
use Rattle.awk_counts.proofs.FirstPlaces.{length-first_of, first_of-mono, first_of-room}
use Rattle.awk_lanes.proofs.MadeLanes.{size-lane_of, at-lane_of}
use Rattle.awk_layout.proofs.ArrayItems.{length-array_items}
use Rattle.awk_columns.proofs.ReachedContents.{below-first_of, first_of-at, places_index}
use Rattle.awk_columns.proofs.ReachedContents.{reached_by, reached-len, reached-item, run_picked}
use Rattle.awk_columns.proofs.SpanPlaces.{row_run}

-- ---- the items

items_of_list : (s t : Column) (y : Layout) (i : ℕ)
    → list_items (list_at s t y i) ≡ map (array_item y) (span_at s t i)
items_of_list s t y i = value_list-run (array_item y) (place_at s i) (place_at t i - place_at s i)

items_of_lists : (s t : Column) (y : Layout) (a n : ℕ)
    → joined_items (map (list_at s t y) (range_with_len a n)) ≡ map (array_item y)
    (flat_map (span_at s t) (range_with_len a n))
items_of_lists s t y a zero = refl
items_of_lists s t y a (suc n) =
    ap₂ (λ vs ws. vs ++ ws) (items_of_list s t y a) (items_of_lists s t y (a + 1) n)
    ∙ sym (map-append (array_item y) (span_at s t a)
    (flat_map (span_at s t) (range_with_len (a + 1) n)))

pub joined_items-is : (s t : Column) (y : Layout)
    → joined_items (list_values s t y) ≡ map (array_item y) (spans s t)
joined_items-is s t y = items_of_lists s t y 0 (size_of s)

pub joined-count : (s t : Column) (y : Layout)
    → length (joined_items (list_values s t y)) ≡ length (spans s t)
joined-count s t y = ap length (joined_items-is s t y) ∙ length-map (spans s t) (array_item y)

-- ---- the offsets

offsets-append : (n : ℕ) (vs : List Value) (v : Value)
    → offsets n (vs ++ v ∷ []) ≡ offsets n vs ++ pos
    (n + length (joined_items vs) + length (list_items v)) ∷ []
offsets-append n [] v =
    let e : n + length (list_items v) ≡ n + 0 + length (list_items v) = omega arith in ap
    (λ m. pos n ∷ pos m ∷ []) e
offsets-append n (w ∷ vs) v =
    let e : n + length (list_items w) + length (joined_items vs) + length (list_items v) ≡ n +
    length (joined_items (w ∷ vs)) + length (list_items v) =
    omega (arith, length-append (list_items w) (joined_items vs)) in
    ap (λ zs. pos n ∷ zs) (offsets-append (n + length (list_items w)) vs v ∙ ap
    (λ m. offsets (n + length (list_items w)) vs ++ pos m ∷ []) e)

offsets_first : (s t : Column) (y : Layout) (n : ℕ)
    → offsets 0 (map (list_at s t y) (range_with_len 0 n)) ≡ map (offset_at s t)
    (range_with_len 0 (n + 1))
offsets_first s t y zero = refl
offsets_first s t y (suc n) =
    let e : n + 1 ≡ suc n = omega arith in
    let vs = map (list_at s t y) (range_with_len 0 n) in
    let l : 0 + length (joined_items vs) + length (list_items (list_at s t y n)) ≡ length
    (first_of (span_at s t) (n + 1)) =
    omega (
      arith,
      ap length (items_of_lists s t y 0 n),
      length-map (first_of (span_at s t) n)
          (array_item y),
      ap length (items_of_list s t y n),
      length-map (span_at s t n)
          (array_item y),
      length-first_of (span_at s t) n,
    ) in
    subst (λ m. offsets 0 (map (list_at s t y) (range_with_len 0 m)) ≡ map (offset_at s t)
    (range_with_len 0 (m + 1))) e
    (ap (offsets 0) (map-range_with_len_more (list_at s t y) 0 n n (omega arith))
    ∙ offsets-append 0 vs (list_at s t y n)
    ∙ ap₂ (λ zs m. zs ++ pos m ∷ []) (offsets_first s t y n) l
    ∙ sym (map-range_with_len_more (offset_at s t) 0 (n + 1) (n + 1) (omega arith)))

pub offsets_lane-is : (s t : Column) (y : Layout) → offsets_lane s t ≡
    record { kind = I64; items = offsets 0 (list_values s t y) }
offsets_lane-is s t y =
    ap (λ zs. record { kind = I64; items = zs }) (sym (offsets_first s t y (size_of s)))

-- the lengths of the lists before one, as the count of their places
pub before-spans : (s t : Column) (i : ℕ)
    → before (span_length s t) i ≡ length (first_of (span_at s t) i)
before-spans s t zero = refl
before-spans s t (suc i) =
    let e : i + 1 ≡ suc i = omega arith in
    let w : length (span_at s t i) ≡ place_at t i - place_at s i = length-range_with_len
    (place_at s i) (place_at t i - place_at s i) in
    subst (λ k. before (span_length s t) (suc i) ≡ length (first_of (span_at s t) k)) e
    (omega (arith, before-spans s t i, length-first_of (span_at s t) i, w))

numbers_same : (f g : ℕ → ℤ) (a n : ℕ) → ((i : ℕ) → f i ≡ g i)
    → map f (range_with_len a n) ≡ map g (range_with_len a n)
numbers_same f g a zero h = refl
numbers_same f g a (suc n) h = ap₂ (λ z zs. z ∷ zs) (h a) (numbers_same f g (a + 1) n h)

pub offsets_by-is : (s t : Column) → offsets_by (span_length s t) (size_of s) ≡ offsets_lane s t
offsets_by-is s t =
    ap (λ zs. record { kind = I64; items = zs })
    (numbers_same (λ i. pos (before (span_length s t) i)) (offset_at s t) 0 (size_of s + 1)
    (λ i. ap pos (before-spans s t i)))

size-offsets : (s t : Column) → size_of (offsets_lane s t) ≡ size_of s + 1
size-offsets s t = size-lane_of I64 (size_of s + 1) (offset_at s t)

at-offsets : (s t : Column) (i : ℕ) → i ≤ size_of s → at (offsets_lane s t) i ≡ offset_at s t i
at-offsets s t i h = at-lane_of I64 (size_of s + 1) (offset_at s t) i (omega arith)

offsets_span : (s t : Column) (n i : ℕ) → length (spans s t) ≡ n → i + 1 ≤ size_of s
    → IsSpan n (at (offsets_lane s t) i) (at (offsets_lane s t) (i + 1))
offsets_span s t n i e h =
    let a = first_of-mono (span_at s t) i (i + 1) (omega arith) in
    let b = first_of-mono (span_at s t) (i + 1) (size_of s) h in
    rw (at-offsets s t i (omega arith), at-offsets s t (i + 1) h)
    (λ d. (omega (arith, ints), omega (arith, ints, a), omega (arith, ints, b, e)))

-- ---- places of the content

span_below : (n a b : ℕ) → (0 < b - a → b ≤ n) → AreBelow n (range_with_len a (b - a))
span_below n a b h = go a (b - a) (λ k l. let f = h (omega arith) in omega arith)
  where
    go : (a m : ℕ) → ((k : ℕ) → k < m → a + k < n) → AreBelow n (range_with_len a m)
    go a zero h = tt
    go a (suc m) h = (
      let f = h 0 (omega arith) in omega arith,
      go (a + 1) m
          (λ k l. let f = h (k + 1) (omega arith) in omega arith),
    )

nat_span : (n : ℕ) (a b : ℤ) → IsSpan n a b → 0 < nat_of b - nat_of a → nat_of b ≤ n
nat_span n (pos a) (pos b) h l =
    let f = h (λ e. let g : nat_of (pos a) ≡ nat_of (pos b) = ap nat_of e in omega arith) in omega
    (arith, ints, f.2)
nat_span n (pos a) (negsuc b) h l = absurd (omega arith)
nat_span n (negsuc a) (pos b) h l = let f = h (λ e. cc) in absurd (omega (arith, ints, f.0))
nat_span n (negsuc a) (negsuc b) h l = absurd (omega arith)

pub spans_below : (s t : Column) (n : ℕ) → AreSpans s t n → AreBelow n (spans s t)
spans_below s t n h =
    below-first_of n (span_at s t) (size_of s) (λ i l.
    span_below n (place_at s i) (place_at t i) (nat_span n (at s i) (at t i) (h.ordered i l)))

-- spans of a shorter list are spans of a longer one
pub spans_wider : (s t : Column) (m n : ℕ) → m ≤ n → AreSpans s t m → AreSpans s t n
spans_wider s t m n p h = record {
  start_kind = h.start_kind;
  stop_kind = h.stop_kind;
  same_size = h.same_size;
  ordered = λ i q d. let f = h.ordered i q d in (f.0, f.1, omega (arith, ints, f.2, p));
}

pub spans_places : (s t : Column) (n : ℕ) (p : Column) → AreSpans s t n
    → p ≡ places_lane (spans s t) → IsIndex p n
spans_places s t n p h e =
    subst (λ c. IsIndex c n) (sym e) (places_index n (spans s t) (spans_below s t n h))

-- a part that holds the lists in a row
pub row_reached : (s t : Column) (y r : Layout) (first n : ℕ) → AreSpans s t (len y)
    → IsRow s t (len y) first → n ≡ length (spans s t) → array_type r ≡ array_type y
    → array_items r ≡ slice_range (array_items y) first (first + n) → IsReached y (spans s t) r
row_reached s t y r first n v h e k i =
    let p = places_lane (spans s t) in
    let m : n ≡ size_of p = e ∙ sym (length-map (spans s t) (λ k. pos k)) in
    reached_by y r p (spans s t) (spans_below s t (len y) v) refl k
    (i ∙ ap (λ w. slice_range (array_items y) first (first + w)) m
    ∙ run_picked (array_items y) p first (len y) refl
    (places_index (len y) (spans s t) (spans_below s t (len y) v)) (length-array_items y)
    (row_run s t (len y) first h))

-- what is gathered at the places
pub gather_reached : (s t p : Column) (y r : Layout) → AreSpans s t (len y)
    → p ≡ places_lane (spans s t) → IsGathered y p r → IsReached y (spans s t) r
gather_reached s t p y r v e h =
    reached_by y r p (spans s t) (spans_below s t (len y) v) e h.typ h.items

-- ---- the lists

place-offsets : (s t : Column) (i : ℕ) → i ≤ size_of s
    → place_at (offsets_lane s t) i ≡ length (first_of (span_at s t) i)
place-offsets s t i h = ap nat_of (at-offsets s t i h)

joined_item : (s t : Column) (y z : Layout) (i k : ℕ) → IsReached y (spans s t) z → i < size_of s
    → k < place_at t i - place_at s i
    → array_item y (place_at s i + k) ≡ array_item z (length (first_of (span_at s t) i) + k)
joined_item s t y z i k h l q =
    let w : length (span_at s t i) ≡ place_at t i - place_at s i = length-range_with_len
    (place_at s i) (place_at t i - place_at s i) in
    let m : length (first_of (span_at s t) i) + k < length (spans s t) = omega
    (arith, first_of-room (span_at s t) i (size_of s) l, w) in
    sym (reached-item y z (spans s t) (length (first_of (span_at s t) i) + k) h m
    ∙ ap (array_item y) (first_of-at (span_at s t) i (size_of s) k 0 l (omega arith)
    ∙ get_or-range_with_len (place_at s i) (place_at t i - place_at s i) k 0 q))

pub are_joined : (s t : Column) (y : Layout) (o : Column) (z : Layout) → AreSpans s t (len y)
    → size_of s < 2 ^ 63 → o ≡ offsets_lane s t → IsReached y (spans s t) z → IsValid z
    → AreJoined s t y o z
are_joined s t y o z v l e h w = rw e (record {
  valid = (
    omega (arith, size-offsets s t),
    record {
      kind = tt;
      some = omega (arith, size-offsets s t);
      ordered = λ i q. offsets_span s t (len z) i (sym n) (omega (arith, size-offsets s t));
    },
    w,
  );
  size = size-offsets s t;
  first = place-offsets s t 0 (omega arith);
  last = place-offsets s t (size_of s) (omega arith) ∙ sym n;
  each = λ i q.
      let a = place-offsets s t i (omega arith) in
      let b = place-offsets s t (i + 1) (omega arith) in
      let u : length (span_at s t i) ≡ place_at t i - place_at s i = length-range_with_len
      (place_at s i) (place_at t i - place_at s i) in
      let d : place_at t i - place_at s i ≡ place_at (offsets_lane s t) (i + 1) - place_at
      (offsets_lane s t) i = omega (arith, a, b, u, length-first_of (span_at s t) i) in
      ap list (run-moved (array_item y) (array_item z) (place_at s i)
      (length (first_of (span_at s t) i)) (place_at t i - place_at s i)
      (λ k p. joined_item s t y z i k h q p)
      ∙ ap₂ (run (array_item z)) (sym a) d);
})
  where
    n : len z ≡ length (spans s t)
    n = reached-len y z (spans s t) h

-- ---- the answer

pub joined_refused : (s t : Column) (y : Layout) → item_limit < length (spans s t)
    → joined_datum (array_type y) (list_values s t y) ≡ Err Size
joined_refused s t y h =
    ap (λ o. refused_or o (arr (array_type y) (joined_items (list_values s t y))))
    (ap too_many (joined-count s t y) ∙ over_limit (length (spans s t)) h)

pub joined_given : (s t : Column) (y z : Layout) → length (spans s t) ≤ item_limit
    → IsReached y (spans s t) z
    → joined_datum (array_type y) (list_values s t y) ≡ Ok (array_datum z)
joined_given s t y z l h =
    ap (λ o. refused_or o (arr (array_type y) (joined_items (list_values s t y))))
    (ap too_many (joined-count s t y) ∙ within_limit (length (spans s t)) l)
    ∙ ap₂ (λ u vs. Ok (arr u vs)) (sym h.typ) (joined_items-is s t y ∙ sym h.items)
