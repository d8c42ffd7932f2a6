-- The runs of the lists of a column: what is made of them.
use Rattle.std.specs.Prelude.{◌≡◌, ℕ, zero, suc, ◌+◌, ◌-◌, ◌<◌, ◌≤◌, ◌^◌, refl, List, ◌++◌, length}
use Rattle.std.specs.Prelude.{map, take, drop, ℤ, pos, Some, None, if◌then◌else◌}
use Rattle.std.specs.List.{range_with_len, flat_map}
use Rattle.std.proofs.Common.{arith, ap, sym, ◌∙◌, subst}
use Rattle.std.proofs.Math.Seq.{drop-append_seam, take-append_seam}
use Rattle.std.proofs.lemmas.Grind.{flat_map-append}
use Rattle.std.proofs.lemmas.Int.{ints}
use Rattle.std.proofs.lemmas.List.{length-map, drop-map, take-map, get_or-map}
use Rattle.std.proofs.lemmas.List.FromFn.{fill_by_all}
use Rattle.std.proofs.lemmas.Simd.{map-map}
use Rattle.awk_base.proofs.Ranges.{range-append}
use Rattle.awk_types.specs.DataType.{leaf}
use Rattle.awk_types.specs.Simple.{simple_value}
use Rattle.awk_types.specs.Value.{int, value_list}
use Rattle.awk_types.specs.ItemLimit.{item_limit}
use Rattle.awk_types.specs.declared.primitive.Primitive.TheVariants as primitive
use Rattle.awk_types.proofs.ItemLimits.{nat_lt-over, nat_lt-within}
use Rattle.awk_lanes.specs.Column.{Column}
use Rattle.awk_lanes.specs.Numbers.{nat_of}
use Rattle.awk_lanes.specs.Places.{size_of, at, place_at}
use Rattle.awk_lanes.specs.declared.kind.Kind.TheVariants.{I64}
use Rattle.awk_layout.specs.Item.{leaf_value, run}
use Rattle.awk_layout.specs.Layout.{Layout, flat}
use Rattle.awk_layout.specs.Typing.{array_type, array_items}
use Rattle.awk_layout.specs.Valid.{len}
use Rattle.awk_gather.specs.Arrays.{array_item}
use Rattle.awk_counts.specs.Counted.{first_of}
use Rattle.awk_counts.proofs.FirstPlaces.{length-first_of}
use Rattle.awk_lanes.proofs.MadeLanes.{size-lane_of, at-lane_of}
use Rattle.awk_layout.proofs.Runs.{run-same}
use Rattle.awk_columns.specs.Joined.{AreOffsets, JoinsLists, total, IsJoined}
use Rattle.awk_columns.specs.ListClass.{Class}
use Rattle.awk_list_functions.specs.Made.{AreGiven}
use Rattle.awk_columns.specs.Lists.{AreLists, items_at, all_items_at}
use Rattle.awk_list_functions.specs.Spoils.{too_many}
use Rattle.awk_list_functions.specs.declared.causes.Spoil.TheVariants.{Size}
use Rattle.awk_columns.specs.declared.lists.Joined.TheVariants.{TooMany}
use Rattle.awk_columns.proofs.ArrayLaws.{array_items-at}
use Rattle.awk_columns.proofs.OffsetLaws.{counted_total}
use Rattle.awk_lists.specs.Numbers.{AreNumbers}
use Rattle.awk_lists.specs.RunLengths.{runs, run_lengths_function}
use Rattle.awk_lists.specs.Runs.{runs_at, runs_before, run_offsets, run_lane, AreRising}
use Rattle.awk_lists.proofs.Ends.{rising_offsets, joined_at}
use Rattle.awk_list_ends.proofs.KeptItems.{run-slice}
use Rattle.awk_lists.proofs.RunLaws.{runs_between-few}

-- ---- lists that lie one after another

first_of-add : (f : ℕ → List ℕ) (i k : ℕ)
    → first_of f (i + k) ≡ first_of f i ++ flat_map f (range_with_len i k)
first_of-add f i k =
    let z : 0 + i ≡ i = omega arith in
    ap (flat_map f) (range-append 0 i k
    ∙ ap (λ b. range_with_len 0 i ++ range_with_len b k) z)
    ∙ flat_map-append f (range_with_len 0 i) (range_with_len i k)

-- the part of all that is of one
first_of-part : (f : ℕ → List ℕ) (i n : ℕ) → i < n
    → take (length (f i)) (drop (length (first_of f i)) (first_of f n)) ≡ f i
first_of-part f i n p =
    let e : i + suc (n - i - 1) ≡ n = omega (arith, p) in
    let rest : List ℕ = flat_map f (range_with_len (i + 1) (n - i - 1)) in
    ap (λ xs. take (length (f i)) (drop (length (first_of f i)) xs))
    (sym (ap (first_of f) e) ∙ first_of-add f i (suc (n - i - 1)))
    ∙ ap (take (length (f i))) (drop-append_seam (first_of f i) (f i ++ rest))
    ∙ take-append_seam (f i) rest

-- ---- the runs of a column

-- the items of whole numbers
flat_items : (zs : List ℤ)
    → array_items (flat (record { kind = I64; items = zs })) ≡ map (λ z. int z) zs
flat_items zs =
    array_items-at (flat (record { kind = I64; items = zs }))
    ∙ sym (fill_by_all (λ k. int (at (record { kind = I64; items = zs }) k)) (map (λ z. int z) zs)
    (length zs) (int (pos 0)) (length-map zs (λ z. int z))
    (λ k p. get_or-map (λ z. int z) zs k (pos 0) (int (pos 0)) p))

module _ (s e : Column) (y : Layout) (o : Column) (z : Layout) (c : Column)
    (class : Class) (a : AreLists class s e y) (j : JoinsLists s e y o z) (n : AreNumbers z c) where
  pub lists_rise : AreRising o (size_of s) (size_of c)
  lists_rise = record {
    kind = j.offsets.offsets.kind;
    size = j.offsets.size;
    positive = λ i p. rw (joined_at s e y o z j i p) (omega (arith, ints));
    ordered = λ i p. omega (arith, j.lengths i p);
    within = λ i p. below i p;
  }
    where
      below : (i : ℕ) → i ≤ size_of s → place_at o i ≤ size_of c
      below zero p = omega (arith, j.offsets.first)
      below (suc i) p =
          let q = j.offsets.within i (omega (arith, p)) in
          let r = j.lengths i (omega (arith, p)) in
          let one : i + 1 ≡ suc i = omega arith in
          subst (λ k. place_at o k ≤ size_of c) one (omega (arith, q, r, n.size))

  few_at : (i : ℕ) → i < size_of s
      → length (runs_at c o i) ≤ place_at o (i + 1) - place_at o i
  few_at i p = runs_between-few c (place_at o i) (place_at o (i + 1))

  few_before : (i : ℕ) → i ≤ size_of s → runs_before c o i ≤ place_at o i
  few_before zero p = omega arith
  few_before (suc i) p =
      let q : i < size_of s = omega (arith, p) in
      let one : i + 1 ≡ suc i = omega arith in
      subst (λ k. runs_before c o k ≤ place_at o k) one
      (omega (
        arith,
        length-first_of (runs_at c o) i,
        few_before i (omega (arith, p)),
        few_at i q,
        j.lengths i q,
      ))

  pub few_runs : runs_before c o (size_of s) ≤ size_of c
  few_runs = omega (arith, few_before (size_of s) (omega arith), j.offsets.last, n.size)

  at-runs : (i : ℕ) → i ≤ size_of s
      → at (run_offsets c o (size_of s)) i ≡ pos (runs_before c o i)
  at-runs i p = at-lane_of I64 (size_of s + 1) (λ k. pos (runs_before c o k)) i (omega (arith, p))

  place-runs : (i : ℕ) → i ≤ size_of s
      → place_at (run_offsets c o (size_of s)) i ≡ runs_before c o i
  place-runs i p = ap nat_of (at-runs i p)

  abbrev made : Layout
  made = flat (run_lane c o (size_of s))

  size-made : len made ≡ runs_before c o (size_of s)
  size-made = length-map (first_of (runs_at c o) (size_of s)) (λ (k : ℕ). pos k)

  items-made : array_items made
      ≡ map (λ (k : ℕ). int (pos k)) (first_of (runs_at c o) (size_of s))
  items-made = flat_items (map (λ (k : ℕ). pos k) (first_of (runs_at c o) (size_of s)))
      ∙ map-map (λ z. int z) (λ (k : ℕ). pos k) (first_of (runs_at c o) (size_of s))

  run_ends_offsets : AreOffsets (run_offsets c o (size_of s)) (size_of s) (len made)
  run_ends_offsets =
      rising_offsets (run_offsets c o (size_of s)) (size_of s) (len made) (runs_before c o) tt
      (size-lane_of I64 (size_of s + 1) (λ k. pos (runs_before c o k)))
      a.fits at-runs (λ i p. omega (arith, length-first_of (runs_at c o) i)) refl
      (sym size-made)

  -- the values of a list are those of the lane
  same_values : (i : ℕ) → i < size_of s → runs_at c o i ≡ runs (items_at s e y i)
  same_values i p =
      ap runs (ap value_list (sym (j.lists i p
      ∙ run-same (array_item z) (λ k. leaf_value c.kind (at c k)) (place_at o i)
      (place_at o (i + 1) - place_at o i)
      (λ k q r. n.items k (omega (arith, r, j.offsets.within i p))))))

  run_list : (i : ℕ) → i < size_of s
      → value_list (run (array_item made) (place_at (run_offsets c o (size_of s)) i)
      (place_at (run_offsets c o (size_of s)) (i + 1)
      - place_at (run_offsets c o (size_of s)) i))
      ≡ map (λ (k : ℕ). int (pos k)) (runs (items_at s e y i))
  run_list i p =
      let w : Column = run_offsets c o (size_of s) in
      let first = place-runs i (omega (arith, p)) in
      let next = place-runs (i + 1) (omega (arith, p)) in
      let more = length-first_of (runs_at c o) i in
      let size : place_at w (i + 1) - place_at w i ≡ length (runs_at c o i) =
      omega (arith, first, next, more) in
      let all : List ℕ = first_of (runs_at c o) (size_of s) in
      run-slice made (place_at w i) (place_at w (i + 1) - place_at w i)
      (run_ends_offsets.within i p)
      ∙ ap (λ k. take k (drop (place_at w i) (array_items made))) size
      ∙ ap (λ k. take (length (runs_at c o i)) (drop k (array_items made))) first
      ∙ ap (λ vs. take (length (runs_at c o i)) (drop (runs_before c o i) vs)) items-made
      ∙ ap (take (length (runs_at c o i))) (drop-map (λ (k : ℕ). int (pos k)) (runs_before c o i)
      all)
      ∙ take-map (λ (k : ℕ). int (pos k)) (length (runs_at c o i)) (drop (runs_before c o i) all)
      ∙ ap (map (λ (k : ℕ). int (pos k))) (first_of-part (runs_at c o) i (size_of s) p)
      ∙ ap (map (λ (k : ℕ). int (pos k))) (same_values i p)

  pub runs_given : size_of c < 2 ^ 63
      → AreGiven None (leaf primitive.I64) (λ vs. map (λ (k : ℕ). int (pos k)) (runs vs)) s e y
      (run_offsets c o (size_of s)) made
  runs_given fits = record {
    valid = omega (arith, size-made, few_runs, fits);
    offsets = run_ends_offsets;
    even = tt;
    typ = refl;
    lists = λ i p. run_list i p
        ∙ sym (map-map (simple_value (leaf primitive.I64)) (λ (k : ℕ). int (pos k))
        (runs (items_at s e y i)));
  }

-- ---- how many items there are

pub runs_spoilt : (s e : Column) (y : Layout) → IsJoined s e y TooMany
    → run_lengths_function.spoil (array_type y) (all_items_at s e y) ≡ Some Size
runs_spoilt s e y h =
    ap too_many (counted_total s e y)
    ∙ ap (λ b. if b then Some Size else None) (nat_lt-over (total s e y) h)

pub runs_fine : (s e : Column) (y : Layout) → total s e y ≤ item_limit
    → run_lengths_function.spoil (array_type y) (all_items_at s e y) ≡ None
runs_fine s e y h =
    ap too_many (counted_total s e y)
    ∙ ap (λ b. if b then Some Size else None) (nat_lt-within (total s e y) h)
