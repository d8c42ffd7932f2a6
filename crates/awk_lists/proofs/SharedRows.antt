-- Rows of lists, whose items are parts of those of all lists of an array.
use Rattle.std.specs.Prelude.{◌≡◌, ℕ, zero, suc, ◌+◌, ◌-◌, ◌<◌, ◌≤◌, ◌^◌, ◌==◌, refl, false, ℤ, pos}
use Rattle.std.specs.Prelude.{◌≤ℤ◌, None, Some, if◌then◌else◌, length, map, take, drop, sum}
use Rattle.std.specs.Prelude.{get_or}
use Rattle.std.specs.List.{AllByRecursion}
use Rattle.std.proofs.Common.{arith, ap, sym, ◌∙◌, subst}
use Rattle.std.proofs.lemmas.Int.{ints}
use Rattle.std.proofs.lemmas.List.{take-map, drop-map}
use Rattle.awk_types.specs.Has.{Has}
use Rattle.awk_types.specs.ItemLimit.{item_limit}
use Rattle.awk_types.specs.Parts.{item_of}
use Rattle.awk_types.specs.Simple.{present, simple, simple_value}
use Rattle.awk_types.specs.Value.{Value, value_list, null}
use Rattle.awk_types.proofs.ItemLimits.{nat_lt-over, nat_lt-within}
use Rattle.awk_types.proofs.SimpleLaws.{simple_twice}
use Rattle.awk_lanes.specs.Column.{Column}
use Rattle.awk_lanes.specs.Counted.{before, offsets_by}
use Rattle.awk_lanes.specs.Numbers.{nat_of}
use Rattle.awk_lanes.specs.Places.{size_of, at, place_at, IsSpan, AreSpans}
use Rattle.awk_lanes.specs.declared.kind.Kind.TheVariants.{I64}
use Rattle.awk_lanes.proofs.CountedLanes.{before-same}
use Rattle.awk_lanes.proofs.MadeLanes.{size-lane_of, at-lane_of}
use Rattle.awk_layout.specs.Item.{run}
use Rattle.awk_layout.specs.Layout.{Layout}
use Rattle.awk_layout.specs.Typing.{layout_type, array_type, array_items}
use Rattle.awk_layout.specs.Valid.{len}
use Rattle.awk_layout.proofs.ArrayItems.{length-array_items, get_or-array_items}
use Rattle.awk_layout.proofs.Runs.{length-run}
use Rattle.awk_gather.specs.Arrays.{array_item}
use Rattle.awk_columns.specs.Columns.{joined_items, list_items}
use Rattle.awk_columns.specs.ListClass.{Class}
use Rattle.awk_columns.specs.Lists.{items_at, all_items_at, span_length}
use Rattle.awk_columns.proofs.JoinedLists.{spans_wider}
use Rattle.awk_columns.proofs.OffsetLaws.{count_given}
use Rattle.awk_list_ends.specs.Ends.{numbers_at_ends, AreListEnds}
use Rattle.awk_list_ends.proofs.EndLaws.{end_number}
use Rattle.awk_list_ends.proofs.KeptItems.{run-slice}
use Rattle.awk_list_ends.proofs.SpanLaws.{start_there, stop_there}
use Rattle.awk_list_functions.specs.Made.{AreSpanned}
use Rattle.awk_list_functions.specs.Spoils.{too_many}
use Rattle.awk_list_functions.specs.declared.causes.Spoil.TheVariants.{Size}
use Rattle.awk_open.specs.Opens.{OpensLists}
use Rattle.awk_lists.specs.Flatten.{flatten_function}
use Rattle.awk_lists.specs.Listed.{items_before, AreEnds, HoldsAll}
use Rattle.awk_lists.specs.Shared.{AreRows}
use Rattle.awk_lists.proofs.Flattened.{items_stay}
use Rattle.awk_lists.proofs.JoinedItems.{items_before-add, items_before-mono, items_before-all}
use Rattle.awk_lists.proofs.JoinedItems.{items_before-next, slice-joined}

-- ---- the offsets of all lists of an array

module _ (class : Class) (s t : Column) (y x : Layout) (op : OpensLists class s t y x) where
  before_is : (i : ℕ) → i ≤ len x → before (span_length s t) i ≡ items_before (array_items x) i
  before_is zero p = refl
  before_is (suc i) p =
      let q : i < len x = omega (arith, p) in
      let e : i + 1 ≡ suc i = omega arith in
      let here : length (list_items (get_or (array_items x) i null)) ≡ span_length s t i =
      ap (λ v. length (list_items v)) (get_or-array_items x i q ∙ op.items i q)
      ∙ length-run (array_item y) (place_at s i) (place_at t i - place_at s i) in
      let next = items_before-next (array_items x) i (omega (arith, q, length-array_items x)) in
      subst (λ k. before (span_length s t) (suc i) ≡ items_before (array_items x) k) e
      (omega (arith, before_is i (omega (arith, p)), here, next))

  pub offsets_end : AreEnds (offsets_by (span_length s t) (size_of s)) (array_items x)
  offsets_end = record {
    kind = tt;
    size = size-lane_of I64 (size_of s + 1) (λ j. pos (before (span_length s t) j))
        ∙ ap (λ n. n + 1) (op.size ∙ sym (length-array_items x));
    ends = λ i p.
        let q : i ≤ len x = omega (arith, p, length-array_items x) in
        at-lane_of I64 (size_of s + 1) (λ j. pos (before (span_length s t) j)) i
        (omega (arith, q, op.size))
        ∙ ap pos (before_is i q);
  }

  pub few_held : before (span_length s t) (size_of s) ≤ item_limit
      → length (joined_items (array_items x)) ≤ item_limit
  few_held h =
      let e = before_is (size_of s) (omega (arith, op.size)) in
      let all = items_before-all (array_items x) (size_of s)
      (omega (arith, op.size, length-array_items x)) in
      omega (arith, h, e, all)

-- ---- rows by these offsets

end_some : (n : ℕ) (z : ℤ) → end_number (suc n) z ≡ z
end_some n z =
    let e : (suc n == 0) ≡ false = grind arith in
    ap (λ b. if b then pos 0 else z) e

module _ (s t : Column) (y : Layout) (a : AreSpans s t (len y)) (o : Column)
    (h : AreEnds o (array_items y)) where
  there : (i : ℕ) → i < size_of s → 0 < span_length s t i
      → (at s i ≡ pos (place_at s i)) × (place_at s i + span_length s t i ≤ len y)
  there i p q = start_there (len y) (at s i) (at t i) (a.ordered i p) q

  next : (i : ℕ) → i < size_of s → 0 < span_length s t i
      → (pos 0 ≤ℤ at t i) × (place_at t i ≡ place_at s i + span_length s t i)
  next i p q = stop_there (len y) (at s i) (at t i) (a.ordered i p) q

  pub starts_are : AreListEnds o s t s
  starts_are = record {
    kind = a.start_kind;
    size = refl;
    places = λ i p q.
        let b = there i p q in
        (rw b.0 (omega (arith, ints)), omega (arith, h.size, length-array_items y, b.1));
  }

  pub stops_are : AreListEnds o s t t
  stops_are = record {
    kind = a.stop_kind;
    size = sym a.same_size;
    places = λ i p q.
        let b = there i p q in
        let e = next i p q in
        (e.0, omega (arith, h.size, length-array_items y, b.1, e.1));
  }

  -- a part of the array, and where its items lie
  at_end : (k : ℕ) → k ≤ len y → at o k ≡ pos (items_before (array_items y) k)
  at_end k p = h.ends k (omega (arith, p, length-array_items y))

  low_end : (n k : ℕ) → k ≤ len y
      → end_number (suc n) (at o k) ≡ pos (items_before (array_items y) k)
  low_end n k p = end_some n (at o k) ∙ at_end k p

  high_end : (n k l : ℕ) → l ≡ k + suc n → k + suc n ≤ len y
      → end_number (suc n) (at o l) ≡ pos (items_before (array_items y) (k + suc n))
  high_end n k l e p = end_some n (at o l) ∙ ap (at o) e ∙ at_end (k + suc n) p

  row_span : (n k l : ℕ) → (0 < n → (l ≡ k + n) × (k + n ≤ len y))
      → IsSpan (length (joined_items (array_items y))) (end_number n (at o k))
      (end_number n (at o l))
  row_span zero k l b = λ d. absurd (d refl)
  row_span (suc n) k l b =
      let both = b (omega arith) in
      let up = items_before-mono (array_items y) k (k + suc n) (omega arith) in
      let most = items_before-mono (array_items y) (k + suc n) (len y) both.1 in
      let all = items_before-all (array_items y) (len y) (omega (arith, length-array_items y)) in
      rw (low_end n k (omega (arith, both.1)), high_end n k l both.0 both.1) (λ d.
      (omega (arith, ints), omega (arith, ints, up), omega (arith, ints, most, all)))

  row_length : (n k l : ℕ) → (0 < n → (l ≡ k + n) × (k + n ≤ len y))
      → nat_of (end_number n (at o l)) - nat_of (end_number n (at o k))
      ≡ length (joined_items (value_list (run (array_item y) k n)))
  row_length zero k l b = refl
  row_length (suc n) k l b =
      let both = b (omega arith) in
      let low = ap nat_of (low_end n k (omega (arith, both.1))) in
      let high = ap nat_of (high_end n k l both.0 both.1) in
      let more = items_before-add (array_items y) k (suc n) in
      let same : length (joined_items (value_list (run (array_item y) k (suc n))))
      ≡ items_before (drop k (array_items y)) (suc n) =
      ap (λ ws. length (joined_items ws)) (run-slice y k (suc n) both.1) in
      omega (arith, low, high, more, same)

  row_items : (n k l : ℕ) → (0 < n → (l ≡ k + n) × (k + n ≤ len y))
      → take (nat_of (end_number n (at o l)) - nat_of (end_number n (at o k)))
      (drop (nat_of (end_number n (at o k))) (joined_items (array_items y)))
      ≡ joined_items (value_list (run (array_item y) k n))
  row_items zero k l b = refl
  row_items (suc n) k l b =
      let both = b (omega arith) in
      let low : nat_of (end_number (suc n) (at o k)) ≡ items_before (array_items y) k =
      ap nat_of (low_end n k (omega (arith, both.1))) in
      let slice = run-slice y k (suc n) both.1 in
      ap (λ m. take m (drop (nat_of (end_number (suc n) (at o k))) (joined_items (array_items y))))
      (row_length (suc n) k l b ∙ ap (λ ws. length (joined_items ws)) slice)
      ∙ ap (λ m. take (items_before (drop k (array_items y)) (suc n))
      (drop m (joined_items (array_items y)))) low
      ∙ slice-joined (array_items y) k (suc n)
      ∙ ap joined_items (sym slice)

  abbrev starts : Column
  starts = numbers_at_ends o s t s

  abbrev stops : Column
  stops = numbers_at_ends o s t t

  size-starts : size_of starts ≡ size_of s
  size-starts =
      size-lane_of I64 (size_of s) (λ i. end_number (span_length s t i) (at o (place_at s i)))

  size-stops : size_of stops ≡ size_of s
  size-stops =
      size-lane_of I64 (size_of s) (λ i. end_number (span_length s t i) (at o (place_at t i)))

  at-starts : (i : ℕ) → i < size_of s
      → at starts i ≡ end_number (span_length s t i) (at o (place_at s i))
  at-starts i p =
      at-lane_of I64 (size_of s) (λ k. end_number (span_length s t k) (at o (place_at s k))) i p

  at-stops : (i : ℕ) → i < size_of s
      → at stops i ≡ end_number (span_length s t i) (at o (place_at t i))
  at-stops i p =
      at-lane_of I64 (size_of s) (λ k. end_number (span_length s t k) (at o (place_at t k))) i p

  ends : (i : ℕ) → i < size_of s → 0 < span_length s t i
      → (place_at t i ≡ place_at s i + span_length s t i)
      × (place_at s i + span_length s t i ≤ len y)
  ends i p q = ((next i p q).1, (there i p q).1)

  pub are_rows : AreRows s t y starts stops
  are_rows = record {
    size = size-starts;
    spans = record {
      start_kind = tt;
      stop_kind = tt;
      same_size = size-starts ∙ sym size-stops;
      ordered = λ i p.
          let q : i < size_of s = omega (arith, p, size-starts) in
          rw (at-starts i q, at-stops i q)
          (row_span (span_length s t i) (place_at s i) (place_at t i) (ends i q));
    };
    lengths = λ i p.
        rw (at-starts i p, at-stops i p)
        (row_length (span_length s t i) (place_at s i) (place_at t i) (ends i p));
    items = λ i p.
        rw (at-starts i p, at-stops i p)
        (row_items (span_length s t i) (place_at s i) (place_at t i) (ends i p));
  }

-- ---- how many items they have, and what is made of them

module _ (s t : Column) (y : Layout) (a b : Column) (r : AreRows s t y a b) where
  counted : sum (map (λ ws. length (joined_items ws)) (all_items_at s t y))
      ≡ before (span_length a b) (size_of a)
  counted =
      count_given joined_items s t y (λ i. length (joined_items (items_at s t y i))) (λ i. refl)
      ∙ before-same (λ i. length (joined_items (items_at s t y i))) (span_length a b) (size_of s)
      (λ i p. sym (r.lengths i p))
      ∙ ap (before (span_length a b)) (sym r.size)

  pub rows_spoilt : item_limit < before (span_length a b) (size_of a)
      → flatten_function.spoil (array_type y) (all_items_at s t y) ≡ Some Size
  rows_spoilt h =
      ap too_many counted
      ∙ ap (λ c. if c then Some Size else None)
      (nat_lt-over (before (span_length a b) (size_of a)) h)

  pub rows_few : before (span_length a b) (size_of a) ≤ item_limit
      → flatten_function.spoil (array_type y) (all_items_at s t y) ≡ None
  rows_few h =
      ap too_many counted
      ∙ ap (λ c. if c then Some Size else None)
      (nat_lt-within (before (span_length a b) (size_of a)) h)

  pub rows_fit : length (joined_items (array_items y)) ≤ item_limit
      → AreSpans a b 9223372036854775807
  rows_fit h =
      spans_wider a b (length (joined_items (array_items y))) 9223372036854775807
      (omega (arith, h)) r.spans

  module _ (z : Layout) (h : HoldsAll y z) where
    whole : length (joined_items (array_items y)) ≡ len z
    whole = ap length (sym h.column) ∙ length-array_items z

    spans : AreSpans a b (len z)
    spans = subst (AreSpans a b) whole r.spans

    slice : (n k : ℕ) → (0 < n → k + n ≤ len z)
        → value_list (run (array_item z) k n) ≡ take n (drop k (array_items z))
    slice zero k b = refl
    slice (suc n) k b = run-slice z k (suc n) (b (omega arith))

    row_is : (i : ℕ) → i < size_of s → items_at a b z i
        ≡ take (span_length a b i) (drop (place_at a i) (array_items z))
    row_is i p =
        slice (span_length a b i) (place_at a i) (λ q.
        (start_there (len z) (at a i) (at b i) (spans.ordered i (omega (arith, p, r.size))) q).1)

    joined_is : (i : ℕ) → i < size_of s
        → take (span_length a b i) (drop (place_at a i) (array_items z))
        ≡ joined_items (items_at s t y i)
    joined_is i p =
        ap (λ ws. take (span_length a b i) (drop (place_at a i) ws)) h.column ∙ r.items i p

    slice_stays : (f : Value → Value) → map f (array_items z) ≡ array_items z → (n k : ℕ)
        → take n (drop k (array_items z)) ≡ map f (take n (drop k (array_items z)))
    slice_stays f e n k =
        ap (λ ws. take n (drop k ws)) (sym e)
        ∙ ap (take n) (drop-map f k (array_items z))
        ∙ take-map f n (drop k (array_items z))

    pub are_spanned : AllByRecursion (Has (array_type z)) (array_items z) → size_of s < 2 ^ 63
        → AreSpanned (item_of (present (array_type y))) (λ ws. joined_items ws) s t y a b z
    are_spanned has fits = record {
      valid = h.valid;
      fits = omega (arith, fits, r.size);
      size = r.size;
      spans = spans;
      typ = sym (simple_twice (layout_type z)) ∙ ap simple h.typ;
      lists = λ i p.
          row_is i p
          ∙ slice_stays (simple_value (item_of (present (array_type y))))
          (items_stay z (item_of (present (array_type y))) h.typ has)
          (span_length a b i) (place_at a i)
          ∙ ap (map (simple_value (item_of (present (array_type y))))) (joined_is i p);
    }
