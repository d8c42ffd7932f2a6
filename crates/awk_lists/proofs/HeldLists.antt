-- Lists that hold an item: which they are among values and in an array, and runs of them.
use Rattle.std.specs.Prelude.{◌≡◌, ℕ, zero, suc, ◌+◌, ◌-◌, ◌<◌, ◌≤◌, refl, true, false, Bool}
use Rattle.std.specs.Prelude.{nat_lt, cond, List, [], ◌∷◌, ◌++◌, length, map, take, pos, ◌≤ℤ◌, Some}
use Rattle.std.specs.Prelude.{None}
use Rattle.std.specs.List.{flat_map, range_with_len}
use Rattle.std.proofs.Common.{arith, ap, sym, ◌∙◌, subst}
use Rattle.std.proofs.lemmas.Int.{ints}
use Rattle.std.proofs.lemmas.List.{length-append, length-map, take_all}
use Rattle.std.proofs.lemmas.List.FromFn.{take-map-range_with_len}
use Rattle.awk_types.specs.DataType.{DataType}
use Rattle.awk_types.specs.Simple.{present}
use Rattle.awk_types.specs.Value.{Value, null, int, truth, list, row, alt}
use Rattle.awk_lanes.specs.Column.{Column}
use Rattle.awk_lanes.specs.Numbers.{nat_of}
use Rattle.awk_lanes.specs.Places.{size_of, at, place_at, IsIndex}
use Rattle.awk_lanes.specs.declared.kind.Kind.TheVariants.{I64}
use Rattle.awk_layout.specs.Layout.{Layout}
use Rattle.awk_layout.specs.Typing.{array_type, array_items}
use Rattle.awk_layout.specs.Valid.{len, IsValid}
use Rattle.awk_layout.proofs.ArrayItems.{length-array_items}
use Rattle.awk_layout.proofs.Runs.{length-run}
use Rattle.awk_gather.specs.Arrays.{array_item, IsGathered}
use Rattle.awk_columns.specs.Columns.{joined_items, list_items, present_values}
use Rattle.awk_counts.specs.Counted.{AreBelow, first_of, places_lane}
use Rattle.awk_gather_lanes.specs.Lanes.{picked}
use Rattle.awk_columns.specs.Reached.{IsReached}
use Rattle.awk_counts.proofs.FirstPlaces.{length-first_of}
use Rattle.awk_lanes.proofs.MadeLanes.{size-lane_of, at-lane_of}
use Rattle.awk_gather_lanes.proofs.PickedLanes.{size-picked, at-picked}
use Rattle.awk_columns.proofs.ReachedContents.{below-first_of, places_index, reached_by}
use Rattle.awk_columns.specs.ListClass.{Class, list_type}
use Rattle.awk_open.specs.Opens.{OpensLists, OpensOption}
use Rattle.awk_columns.proofs.ArrayLaws.{array_items-at}
use Rattle.awk_types.specs.Predicates.{is_list_or_unknown}
use Rattle.awk_lists.specs.Held.{holds_item, held_lists, held_at, held_counts, AreLengths, AreHeld}
use Rattle.awk_counts.specs.Present.{present_lane}
use Rattle.awk_lists.proofs.Ends.{list_present, list_not_option, count_present, take_present}
use Rattle.awk_lists.proofs.Ends.{at-counts, filter_few}
use Rattle.awk_option_nodes.proofs.OptionNodes.{size-counts}
use Rattle.awk_list_ends.proofs.SpanLaws.{lists_within}
use Rattle.awk_list_ends.specs.Kept.{KeepsItems}

-- ---- values

is_over : (n : ℕ) → nat_lt 0 n ≡ true → 0 < n
is_over n e = grind arith

no_item : (vs : List Value) → nat_lt 0 (length vs) ≡ false → vs ≡ []
no_item [] e = refl
no_item (v ∷ vs) e =
    let f : nat_lt 0 (suc (length vs)) ≡ true = grind arith in
    let g : true ≡ false = sym f ∙ e in
    cc

join_one : (b : Bool) (v : Value) (us : List Value) → (b ≡ false → list_items v ≡ [])
    → joined_items (cond b (v ∷ us) us) ≡ list_items v ++ joined_items us
join_one true v us h = refl
join_one false v us h = ap (λ ws. ws ++ joined_items us) (sym (h refl))

-- lists that hold no item add none
pub joined-held : (vs : List Value) → joined_items (held_lists vs) ≡ joined_items vs
joined-held [] = refl
joined-held (v ∷ vs) =
    join_one (holds_item v) v (held_lists vs) (no_item (list_items v))
    ∙ ap (λ ws. list_items v ++ ws) (joined-held vs)

count_one : (b : Bool) (v : Value) (us : List Value) (n : ℕ) → (b ≡ true → 0 < n)
    → length (cond b (v ∷ us) us) ≤ n + length us
count_one true v us n h = let p : 0 < n = h refl in omega (arith, p)
count_one false v us n h = omega arith

-- each that is left holds at least one item
pub held-few : (vs : List Value) → length (held_lists vs) ≤ length (joined_items vs)
held-few [] = omega arith
held-few (v ∷ vs) =
    let a = count_one (holds_item v) v (held_lists vs) (length (list_items v))
    (is_over (length (list_items v))) in
    let b = length-append (list_items v) (joined_items vs) in
    omega (arith, a, b, held-few vs)

-- null holds none
pub held-present : (vs : List Value) → held_lists (present_values vs) ≡ held_lists vs
held-present [] = refl
held-present (null ∷ vs) = held-present vs
held-present (int z ∷ vs) = held-present vs
held-present (truth b ∷ vs) = held-present vs
held-present (list ws ∷ vs) =
    ap (λ us. cond (holds_item (list ws)) (list ws ∷ us) us) (held-present vs)
held-present (row ws ∷ vs) = held-present vs
held-present (alt k v ∷ vs) = held-present vs

-- ---- those that hold an item as the items that a test keeps

pub keeps_held : (x : Layout) (c : Column) (z : Layout) → AreHeld x c z
    → KeepsItems holds_item x c z
keeps_held x c z h = record {
  valid = h.valid;
  column = h.column;
  kind = h.kind;
  size = h.size;
  counts = h.counts;
}

-- ---- the places of those of an array

places_filtered : (f : ℕ → Value) (g : ℕ → List ℕ) (b n : ℕ)
    → ((i : ℕ) → b ≤ i → i < b + n → g i ≡ cond (holds_item (f i)) (i ∷ []) [])
    → map f (flat_map g (range_with_len b n)) ≡ held_lists (map f (range_with_len b n))
places_filtered f g b zero e = refl
places_filtered f g b (suc n) e =
    ap (λ ks. map f (ks ++ flat_map g (range_with_len (b + 1) n)))
    (e b (omega arith) (omega arith))
    ∙ one (holds_item (f b)) b (flat_map g (range_with_len (b + 1) n))
    ∙ ap (λ vs. cond (holds_item (f b)) (f b ∷ vs) vs)
    (places_filtered f g (b + 1) n
    (λ i p q. e i (omega (arith, p)) (omega (arith, q))))
  where
    one : (c : Bool) (k : ℕ) (ks : List ℕ)
        → map f (cond c (k ∷ []) [] ++ ks) ≡ cond c (f k ∷ map f ks) (map f ks)
    one true k ks = refl
    one false k ks = refl

below_one : (b : Bool) (n i : ℕ) → i < n → AreBelow n (cond b (i ∷ []) [])
below_one true n i p = (p, tt)
below_one false n i p = tt

few_one : (b : Bool) (i : ℕ) → length (cond b (i ∷ []) []) ≤ 1
few_one true i = omega arith
few_one false i = omega arith

-- no more of the first lists than there are
pub held-most : (s t : Column) (i : ℕ) → length (first_of (held_at s t) i) ≤ i
held-most s t zero = omega arith
held-most s t (suc i) =
    let e : i + 1 ≡ suc i = omega arith in
    let more = few_one (nat_lt 0 (place_at t i - place_at s i)) i in
    subst (λ m. length (first_of (held_at s t) m) ≤ m) e
    (omega (arith, held-most s t i, length-first_of (held_at s t) i, more))

pub held-some : (s t : Column) (i n : ℕ) → n ≡ place_at t i - place_at s i → 0 < n
    → held_at s t i ≡ i ∷ []
held-some s t i n e p =
    let f : nat_lt 0 n ≡ true = grind arith in
    ap (λ m. cond (nat_lt 0 m) (i ∷ []) []) (sym e) ∙ ap (λ b. cond b (i ∷ []) []) f

pub held-none : (s t : Column) (i n : ℕ) → n ≡ place_at t i - place_at s i → n ≤ 0
    → held_at s t i ≡ []
held-none s t i n e p =
    let f : nat_lt 0 n ≡ false = grind arith in
    ap (λ m. cond (nat_lt 0 m) (i ∷ []) []) (sym e) ∙ ap (λ b. cond b (i ∷ []) []) f

-- how many lists hold an item stands last
module _ (s t : Column) where
  pub held_size : size_of s < size_of (held_counts s t)
  held_size =
      omega (arith, size-lane_of I64 (size_of s + 1) (λ k. pos (length (first_of (held_at s t) k))))

  last_is : at (held_counts s t) (size_of s) ≡ pos (length (first_of (held_at s t) (size_of s)))
  last_is =
      at-lane_of I64 (size_of s + 1) (λ k. pos (length (first_of (held_at s t) k))) (size_of s)
      (omega arith)

  pub last_positive : pos 0 ≤ℤ at (held_counts s t) (size_of s)
  last_positive = rw last_is (omega (arith, ints))

  pub last_place : place_at (held_counts s t) (size_of s)
      ≡ length (first_of (held_at s t) (size_of s))
  last_place = ap nat_of last_is

module _ (x : Layout) (s t : Column) (h : AreLengths x s t) where
  held_is : (i : ℕ) → i < len x → held_at s t i ≡ cond (holds_item (array_item x i)) (i ∷ []) []
  held_is i p = ap (λ n. cond (nat_lt 0 n) (i ∷ []) []) (sym (h.lengths i p))

  first_held : (i : ℕ) → i ≤ len x
      → map (array_item x) (first_of (held_at s t) i) ≡ held_lists (take i (array_items x))
  first_held i p =
      places_filtered (array_item x) (held_at s t) 0 i
      (λ k _ q. held_is k (omega (arith, p, q)))
      ∙ ap held_lists (sym (ap (take i) (array_items-at x)
      ∙ take-map-range_with_len (array_item x) 0 (len x) i p))

  held_below : AreBelow (len x) (first_of (held_at s t) (size_of s))
  held_below =
      below-first_of (len x) (held_at s t) (size_of s)
      (λ i p. below_one (nat_lt 0 (place_at t i - place_at s i)) (len x) i
      (omega (arith, p, h.size)))

  pub held_index : IsIndex (places_lane (first_of (held_at s t) (size_of s))) (len x)
  held_index = places_index (len x) (first_of (held_at s t) (size_of s)) held_below

  counts_at : (i : ℕ) → i ≤ len x
      → at (held_counts s t) i ≡ pos (length (held_lists (take i (array_items x))))
  counts_at i p =
      at-lane_of I64 (size_of s + 1) (λ k. pos (length (first_of (held_at s t) k))) i
      (omega (arith, p, h.size))
      ∙ ap pos (sym (length-map (first_of (held_at s t) i) (array_item x))
      ∙ ap length (first_held i p))

  pub are_held : (z : Layout) → is_list_or_unknown (array_type x) ≡ true → IsValid z
      → IsGathered x (places_lane (first_of (held_at s t) (size_of s))) z
      → AreHeld x (held_counts s t) z
  are_held z l v g =
      let r : IsReached x (first_of (held_at s t) (size_of s)) z =
      reached_by x z (places_lane (first_of (held_at s t) (size_of s)))
      (first_of (held_at s t) (size_of s)) held_below refl g.typ g.items in
      record {
        typ = g.typ ∙ sym (list_present (array_type x) l);
        valid = v;
        column = r.items
            ∙ ap (λ n. map (array_item x) (first_of (held_at s t) n)) h.size
            ∙ first_held (len x) (omega arith)
            ∙ ap held_lists (take_all (len x) (array_items x)
            (omega (arith, length-array_items x)));
        kind = tt;
        size = size-lane_of I64 (size_of s + 1)
            (λ k. pos (length (first_of (held_at s t) k))) ∙ ap (λ n. n + 1) h.size;
        counts = counts_at;
      }

-- ---- arrays of lists

pub opens_lengths : (class : Class) (s t : Column) (y x : Layout) → OpensLists class s t y x
    → AreLengths x s t
opens_lengths class s t y x op = record {
  spans = lists_within class s t y op.lists;
  fits = op.lists.fits;
  size = op.size;
  lengths = λ i p.
      ap (λ v. length (list_items v)) (op.items i p)
      ∙ length-run (array_item y) (place_at s i) (place_at t i - place_at s i);
}

list_typ_is : (class : Class) (u : DataType) → is_list_or_unknown (list_type class u) ≡ true
list_typ_is None u = refl
list_typ_is (Some n) u = refl

pub opens_lists : (class : Class) (s t : Column) (y x : Layout) → OpensLists class s t y x
    → is_list_or_unknown (array_type x) ≡ true
opens_lists class s t y x op = ap is_list_or_unknown op.typ ∙ list_typ_is class (array_type y)

-- ---- options

take_held : (vs : List Value) (i : ℕ)
    → length (held_lists (take (length (present_values (take i vs))) (present_values vs)))
    ≡ length (held_lists (take i vs))
take_held vs i = ap (λ ws. length (held_lists ws)) (take_present vs i)
    ∙ ap length (held-present (take i vs))

module _ (j : Column) (y x : Layout) (c : Column) (op : OpensOption j y x)
    (l : is_list_or_unknown (array_type y) ≡ true) (z : Layout) (h : AreHeld y c z) where
  count_at : (i : ℕ) → i ≤ len x
      → at (present_lane j) i ≡ pos (length (present_values (take i (array_items x))))
  count_at i p =
      at-counts j i (omega (arith, p, op.size))
      ∙ ap pos (count_present j y x op (list_not_option (array_type y) l) i p)

  count_within : (i : ℕ) → length (present_values (take i (array_items x))) ≤ len y
  count_within i =
      let few = filter_few (array_items x) i in
      let s : length (array_items y) ≡ length (present_values (array_items x)) =
      ap length op.column in
      omega (arith, few, s, length-array_items y)

  pub option_index : IsIndex (present_lane j) (size_of c)
  option_index = record {
    kind = tt;
    places = λ i p.
        let e = count_at i (omega (arith, p, op.size, size-counts j)) in
        let most = count_within i in
        (rw e (omega (arith, ints)), rw e (omega (arith, most, h.size)));
  }

  option_counts : (i : ℕ) → i ≤ len x
      → at (picked c (present_lane j)) i ≡ pos (length (held_lists (take i (array_items x))))
  option_counts i p =
      let q : i < size_of (present_lane j) = omega (arith, p, op.size, size-counts j) in
      at-picked c (present_lane j) i q
      ∙ ap (at c) (ap nat_of (count_at i p))
      ∙ h.counts (length (present_values (take i (array_items x)))) (count_within i)
      ∙ ap (λ vs. pos (length (held_lists (take (length (present_values (take i (array_items x))))
      vs)))) op.column
      ∙ ap pos (take_held (array_items x) i)

  pub option_held : AreHeld x (picked c (present_lane j)) z
  option_held = record {
    typ = h.typ ∙ list_present (array_type y) l ∙ sym (ap present op.typ);
    valid = h.valid;
    column = h.column ∙ ap held_lists op.column ∙ held-present (array_items x);
    kind = h.kind;
    size = size-picked c (present_lane j) ∙ size-counts j ∙ ap (λ n. n + 1) op.size;
    counts = option_counts;
  }
