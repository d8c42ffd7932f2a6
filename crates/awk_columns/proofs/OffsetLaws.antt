-- Offsets by lengths: what they are to lists, and how many items there are.
use Rattle.std.specs.Prelude.{◌≡◌, ℕ, zero, suc, ◌+◌, ◌-◌, ◌*◌, ◌<◌, ◌≤◌, ◌^◌, List, length, map}
use Rattle.std.specs.Prelude.{sum, pos, Some, None}
use Rattle.std.specs.List.{range_with_len, flat_map}
use Rattle.std.proofs.Common.{arith, ap, sym, ◌∙◌}
use Rattle.std.proofs.lemmas.Int.{ints}
use Rattle.std.proofs.lemmas.Simd.{map-map}
use Rattle.awk_types.specs.Value.{Value}
use Rattle.awk_lanes.specs.declared.kind.Kind.TheVariants as kinds
use Rattle.awk_lanes.specs.Column.{Column}
use Rattle.awk_lanes.specs.Places.{size_of, at, place_at, IsSpan}
use Rattle.awk_layout.specs.Layout.{Layout}
use Rattle.awk_layout.proofs.Runs.{length-run}
use Rattle.awk_gather.specs.Arrays.{array_item}
use Rattle.awk_columns.specs.Joined.{AreOffsets, total}
use Rattle.awk_columns.specs.Lists.{AreOfClass, items_at, all_items_at, span_length}
use Rattle.awk_columns.specs.ListClass.{Class}
use Rattle.awk_columns.specs.ListNode.{AreEven}
use Rattle.awk_lanes.specs.Counted.{before, offsets_by}
use Rattle.awk_lanes.proofs.MadeLanes.{size-lane_of, at-lane_of}
use Rattle.awk_lanes.proofs.CountedLanes.{before-next, before_mono, place-offsets, sum-before}
use Rattle.std.proofs.lemmas.List.Concat.{length-flat_map}
use Rattle.std.proofs.lemmas.List.Sums.{sum-map}
use Rattle.awk_base.proofs.Ranges.{map-same}

module _ (m : ℕ → ℕ) where
  size-offsets : (n : ℕ) → size_of (offsets_by m n) ≡ n + 1
  size-offsets n = size-lane_of kinds.I64 (n + 1) (λ j. pos (before m j))

  at-offsets : (n i : ℕ) → i ≤ n → at (offsets_by m n) i ≡ pos (before m i)
  at-offsets n i p = at-lane_of kinds.I64 (n + 1) (λ j. pos (before m j)) i (omega (arith, p))

  offsets_span : (n i : ℕ) → i + 1 ≤ n
      → IsSpan (before m n) (at (offsets_by m n) i) (at (offsets_by m n) (i + 1))
  offsets_span n i p =
      let a = before_mono m i (i + 1) (omega arith) in
      let b = before_mono m (i + 1) n p in
      rw (at-offsets n i (omega (arith, p)), at-offsets n (i + 1) p)
      (λ d. (omega (arith, ints), omega (arith, ints, a), omega (arith, ints, b)))

  pub are_offsets : (n : ℕ) → n < 2 ^ 63 → AreOffsets (offsets_by m n) n (before m n)
  are_offsets n p = record {
    offsets = record {
      kind = tt;
      some = omega (arith, size-offsets n);
      ordered = λ i q. offsets_span n i (omega (arith, q, size-offsets n));
    };
    fits = omega (arith, size-offsets n, p);
    size = size-offsets n;
    first = place-offsets m n 0 (omega arith);
    last = place-offsets m n n (omega arith);
    within = λ i q.
        let a = place-offsets m n i (omega (arith, q)) in
        let b = place-offsets m n (i + 1) (omega (arith, q)) in
        let c = before_mono m i (i + 1) (omega arith) in
        let d = before_mono m (i + 1) n (omega (arith, q)) in
        omega (arith, a, b, c, d);
  }

  -- where list i begins, and how long it is
  pub offset-length : (n i : ℕ) → i < n
      → place_at (offsets_by m n) (i + 1) - place_at (offsets_by m n) i ≡ m i
  offset-length n i p =
      let a = place-offsets m n i (omega (arith, p)) in
      let b = place-offsets m n (i + 1) (omega (arith, p)) in
      omega (arith, a, b, before-next m i)

-- lists of one size have even offsets
pub even_offsets : (class : Class) (s t : Column) → AreOfClass class s t
    → AreEven class (offsets_by (span_length s t) (size_of s)) (size_of s)
even_offsets None s t c = tt
even_offsets (Some m) s t c = λ i p. place-offsets (span_length s t) (size_of s) i p ∙ go i p
  where
    go : (i : ℕ) → i ≤ size_of s → before (span_length s t) i ≡ i * m
    go zero p = omega arith
    go (suc i) p =
        let here : before (span_length s t) i ≡ i * m = go i (omega (arith, p)) in
        let size : span_length s t i ≡ m = c i (omega (arith, p)) in
        let next : suc i * m ≡ i * m + m = grind arith in
        omega (arith, here, size, next)

pub items_at-length : (s t : Column) (y : Layout) (i : ℕ)
    → length (items_at s t y i) ≡ span_length s t i
items_at-length s t y i = length-run (array_item y) (place_at s i) (place_at t i - place_at s i)

-- how many items a function of lists gives, each list by its length
pub count_given : (f : List Value → List Value) (s t : Column) (y : Layout) (m : ℕ → ℕ)
    → ((i : ℕ) → length (f (items_at s t y i)) ≡ m i)
    → sum (map (λ (l : List Value). length (f l)) (all_items_at s t y)) ≡ before m (size_of s)
count_given f s t y m e =
    ap sum (map-map (λ (l : List Value). length (f l)) (items_at s t y)
    (range_with_len 0 (size_of s)))
    ∙ sum-before m (λ i. length (f (items_at s t y i))) e (size_of s)

-- all lists, each by how long it becomes
pub count_lists : (f : List Value → List Value) (s t : Column) (y : Layout) (g : ℕ → List Value)
    → ((i : ℕ) → i < size_of s → length (f (items_at s t y i)) ≡ length (g i))
    → sum (map (λ l. length (f l)) (all_items_at s t y))
    ≡ length (flat_map g (range_with_len 0 (size_of s)))
count_lists f s t y g e =
    ap sum (map-map (λ (l : List Value). length (f l)) (items_at s t y)
    (range_with_len 0 (size_of s))
    ∙ map-same (λ i. length (f (items_at s t y i))) (λ i. length (g i)) 0 (size_of s)
    (λ i _ q. e i (omega (arith, q))))
    ∙ sum-map (λ i. length (g i)) (range_with_len 0 (size_of s))
    ∙ sym (length-flat_map g (range_with_len 0 (size_of s)))

-- lists that stay as long
pub count_same : (f : List Value → List Value) (s t : Column) (y : Layout)
    → ((vs : List Value) → length (f vs) ≡ length vs)
    → sum (map (λ l. length (f l)) (all_items_at s t y)) ≡ total s t y
count_same f s t y e = count_lists f s t y (items_at s t y) (λ i _. e (items_at s t y i))

-- the lengths of all lists are the length of all items
pub counted_total : (s e : Column) (y : Layout)
    → sum (map (λ (l : List Value). length l) (all_items_at s e y)) ≡ total s e y
counted_total s e y =
    ap sum (map-map (λ (l : List Value). length l) (items_at s e y) (range_with_len 0 (size_of s)))
    ∙ sum-map (λ i. length (items_at s e y i)) (range_with_len 0 (size_of s))
    ∙ sym (length-flat_map (items_at s e y) (range_with_len 0 (size_of s)))
