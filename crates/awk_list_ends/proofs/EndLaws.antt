-- Lists of the items that stay: where they begin and end among these, and what they hold.
use Rattle.std.specs.Prelude.{◌≡◌, ℕ, zero, suc, ◌+◌, ◌-◌, ◌<◌, ◌≤◌, ◌==◌, refl, false, ℤ, pos}
use Rattle.std.specs.Prelude.{◌≤ℤ◌, None, if◌then◌else◌, filter, Bool}
use Rattle.std.proofs.Common.{arith, ap, sym, ◌∙◌}
use Rattle.std.proofs.lemmas.Int.{ints}
use Rattle.awk_types.specs.Value.{value_list, Value}
use Rattle.awk_lanes.specs.Column.{Column}
use Rattle.awk_lanes.specs.Numbers.{nat_of}
use Rattle.awk_lanes.specs.Places.{size_of, at, place_at, IsSpan}
use Rattle.awk_lanes.specs.declared.kind.Kind.TheVariants.{I64}
use Rattle.awk_layout.specs.Layout.{Layout}
use Rattle.awk_layout.specs.Item.{run}
use Rattle.awk_layout.specs.Valid.{len}
use Rattle.awk_gather.specs.Arrays.{array_item}
use Rattle.awk_lanes.proofs.MadeLanes.{size-lane_of, at-lane_of}
use Rattle.awk_columns.specs.ListClass.{Class}
use Rattle.awk_columns.specs.Lists.{span_length, AreLists, items_at}
use Rattle.awk_list_ends.proofs.SpanLaws.{start_there, stop_there}
use Rattle.awk_list_ends.specs.Ends.{AreListEnds, numbers_at_ends}
use Rattle.awk_list_ends.specs.Kept.{KeepsItems}
use Rattle.awk_list_ends.proofs.KeptItems.{at-count, counts_up, counts_within, kept_run}

-- a number where a list has items, else 0
abbrev pub end_number : ℕ → ℤ → ℤ
end_number n z = if n == 0 then pos 0 else z

end_some : (n : ℕ) (z : ℤ) → end_number (suc n) z ≡ z
end_some n z =
    let e : (suc n == 0) ≡ false = grind arith in
    ap (λ b. if b then pos 0 else z) e

module _ (keep : Value → Bool) (class : Class) (s t : Column) (y : Layout)
    (a : AreLists class s t y) (c : Column) (z : Layout) (h : KeepsItems keep y c z) where
  there : (i : ℕ) → i < size_of s → 0 < span_length s t i
      → (at s i ≡ pos (place_at s i)) × (place_at s i + span_length s t i ≤ len y)
  there i p q = start_there (len y) (at s i) (at t i) (a.spans.ordered i p) q

  next : (i : ℕ) → i < size_of s → 0 < span_length s t i
      → (pos 0 ≤ℤ at t i) × (place_at t i ≡ place_at s i + span_length s t i)
  next i p q = stop_there (len y) (at s i) (at t i) (a.spans.ordered i p) q

  pub starts_are : AreListEnds c s t s
  starts_are = record {
    kind = a.spans.start_kind;
    size = refl;
    places = λ i p q.
        let b = there i p q in
        (rw b.0 (omega (arith, ints)), omega (arith, h.size, b.1));
  }

  pub stops_are : AreListEnds c s t t
  stops_are = record {
    kind = a.spans.stop_kind;
    size = sym a.spans.same_size;
    places = λ i p q.
        let b = there i p q in
        let e = next i p q in
        (e.0, omega (arith, h.size, b.1, e.1));
  }

  abbrev pub starts : Column
  starts = numbers_at_ends c s t s

  abbrev pub stops : Column
  stops = numbers_at_ends c s t t

  pub size-starts : size_of starts ≡ size_of s
  size-starts =
      size-lane_of I64 (size_of s) (λ i. end_number (span_length s t i) (at c (place_at s i)))

  size-stops : size_of stops ≡ size_of s
  size-stops =
      size-lane_of I64 (size_of s) (λ i. end_number (span_length s t i) (at c (place_at t i)))

  at-starts : (i : ℕ) → i < size_of s
      → at starts i ≡ end_number (span_length s t i) (at c (place_at s i))
  at-starts i p =
      at-lane_of I64 (size_of s) (λ k. end_number (span_length s t k) (at c (place_at s k))) i p

  at-stops : (i : ℕ) → i < size_of s
      → at stops i ≡ end_number (span_length s t i) (at c (place_at t i))
  at-stops i p =
      at-lane_of I64 (size_of s) (λ k. end_number (span_length s t k) (at c (place_at t k))) i p

  -- from the number before the first of n items to that before the next
  part : (n k l : ℕ) → (0 < n → (l ≡ k + n) × (k + n ≤ len y))
      → value_list (run (array_item z) (nat_of (end_number n (at c k)))
      (nat_of (end_number n (at c l)) - nat_of (end_number n (at c k))))
      ≡ filter keep (value_list (run (array_item y) k n))
  part zero k l b = refl
  part (suc n) k l b =
      let both = b (omega arith) in
      ap (λ w. value_list (run (array_item z) (nat_of w)
      (nat_of (end_number (suc n) (at c l)) - nat_of w))) (end_some n (at c k))
      ∙ ap (λ w. value_list (run (array_item z) (place_at c k) (nat_of w - place_at c k)))
      (end_some n (at c l))
      ∙ ap (λ m. value_list (run (array_item z) (place_at c k) (place_at c m - place_at c k)))
      both.0
      ∙ kept_run keep y c z h k (suc n) both.1

  span : (n k l : ℕ) → (0 < n → (l ≡ k + n) × (k + n ≤ len y))
      → IsSpan (len z) (end_number n (at c k)) (end_number n (at c l))
  span zero k l b = λ d. absurd (d refl)
  span (suc n) k l b =
      let both = b (omega arith) in
      let low = at-count keep y c z h k (omega (arith, both.1)) in
      let high : at c l ≡ pos (place_at c (k + suc n)) =
      ap (at c) both.0 ∙ at-count keep y c z h (k + suc n) both.1 in
      let up = counts_up keep y c z h k (suc n) both.1 in
      let within = counts_within keep y c z h (k + suc n) both.1 in
      rw (end_some n (at c k) ∙ low, end_some n (at c l) ∙ high) (λ d.
      (omega (arith, ints), omega (arith, ints, up), omega (arith, ints, within)))

  ends : (i : ℕ) → i < size_of s → 0 < span_length s t i
      → (place_at t i ≡ place_at s i + span_length s t i)
      × (place_at s i + span_length s t i ≤ len y)
  ends i p q = ((next i p q).1, (there i p q).1)

  pub kept_lists : AreLists None starts stops z
  kept_lists = record {
    spans = record {
      start_kind = tt;
      stop_kind = tt;
      same_size = size-starts ∙ sym size-stops;
      ordered = λ i p.
          let q : i < size_of s = omega (arith, p, size-starts) in
          rw (at-starts i q, at-stops i q)
          (span (span_length s t i) (place_at s i) (place_at t i) (ends i q));
    };
    fits = omega (arith, size-starts, a.fits);
    valid = h.valid;
    same_class = tt;
  }

  pub list_is : (i : ℕ) → i < size_of s
      → items_at starts stops z i ≡ filter keep (items_at s t y i)
  list_is i p =
      ap (λ w. value_list (run (array_item z) (nat_of w) (place_at stops i - nat_of w)))
      (at-starts i p)
      ∙ ap (λ w. value_list (run (array_item z)
      (nat_of (end_number (span_length s t i) (at c (place_at s i))))
      (nat_of w - nat_of (end_number (span_length s t i) (at c (place_at s i))))))
      (at-stops i p)
      ∙ part (span_length s t i) (place_at s i) (place_at t i) (ends i p)
