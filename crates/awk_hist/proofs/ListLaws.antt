-- Histograms of lists, by their items one after another.
use Rattle.std.specs.Prelude.{◌≡◌, ℕ, zero, suc, ◌+◌, ◌-◌, ◌*◌, ◌<◌, ◌≤◌, ◌^◌, refl, true, Bool}
use Rattle.std.specs.Prelude.{nat_lt, nat_le, ℤ, List, [], ◌∷◌, length, map, sum, pos, false}
use Rattle.std.specs.Prelude.{Option, Some, None, if◌then◌else◌}
use Rattle.std.specs.List.{sum_by}
use Rattle.std.proofs.Common.{arith, ap, ap₂, sym, ◌∙◌, subst}
use Rattle.std.proofs.lemmas.Bool.{leb-true}
use Rattle.std.proofs.lemmas.Int.{ints}
use Rattle.std.proofs.lemmas.List.FromFn.{length-map-range_with_len}
use Rattle.std.proofs.lemmas.List.Sums.{sum-map, sum_by-cons}
use Rattle.awk_base.proofs.Ranges.{part-range}
use Rattle.awk_types.specs.DataType.{DataType}
use Rattle.awk_types.specs.ItemLimit.{item_limit}
use Rattle.awk_types.specs.Simple.{present, simple_value}
use Rattle.awk_types.specs.Value.{Value, value_list}
use Rattle.awk_types.specs.WholeNumbers.{is_numbers}
use Rattle.awk_lanes.specs.Column.{Column}
use Rattle.awk_lanes.specs.Numbers.{nat_of}
use Rattle.awk_lanes.specs.Places.{size_of, at, place_at}
use Rattle.awk_lanes.specs.declared.kind.Kind.TheVariants.{I64}
use Rattle.awk_lanes.proofs.MadeLanes.{at-lane_of}
use Rattle.awk_layout.specs.Layout.{Layout}
use Rattle.awk_layout.specs.Typing.{array_type, array_items}
use Rattle.awk_layout.specs.Valid.{len}
use Rattle.awk_layout.proofs.Runs.{value_list-run}
use Rattle.awk_gather.specs.Arrays.{array_item}
use Rattle.awk_counts.specs.Counted.{offset_at}
use Rattle.awk_columns.specs.Joined.{JoinsLists, total, IsJoined}
use Rattle.awk_columns.specs.ListClass.{Class}
use Rattle.awk_columns.specs.Lists.{items_at, all_items_at}
use Rattle.awk_columns.specs.declared.lists.Joined.TheVariants.{TooMany}
use Rattle.awk_columns.proofs.ArrayLaws.{array_items-at}
use Rattle.awk_columns.proofs.OffsetLaws.{counted_total}
use Rattle.awk_list_functions.specs.Causes.{first_spoil}
use Rattle.awk_list_functions.specs.Made.{IsMade, IsColumn}
use Rattle.awk_list_functions.specs.Spoils.{too_many}
use Rattle.awk_list_functions.specs.declared.causes.Refusal.TheVariants as refused
use Rattle.awk_list_functions.specs.declared.causes.Spoil.{Spoil}
use Rattle.awk_list_functions.specs.declared.causes.Spoil.TheVariants.{Index, Size}
use Rattle.awk_list_functions.specs.declared.function.Made.TheVariants as made
use Rattle.awk_parts.specs.Parts.{AreRising}
use Rattle.awk_present.specs.Numbers.{numbers}
use Rattle.awk_present.specs.Present.{list_at}
use Rattle.awk_bins.specs.Bins.{intervals, interval_counts, count_in}
use Rattle.awk_hist.specs.Bins.{bins, bins_and, bins_row, bins_type, count_nulls}
use Rattle.awk_hist.specs.HistEach.{bins_function}
use Rattle.awk_hist.specs.Lists.{AreItems}

-- ---- counts

-- the counts of a list are as many as there are intervals
counts_total : (es : List ℤ) (ls : List (List Value))
    → sum (map (λ l. length (interval_counts es (numbers l))) ls) ≡ length ls * intervals es
counts_total es ls = sum-map (λ l. length (interval_counts es (numbers l))) ls ∙ each ls
  where
    each : (ls : List (List Value))
        → sum_by (λ l. length (interval_counts es (numbers l))) ls ≡ length ls * intervals es
    each [] = omega arith
    each (l ∷ ls) =
        sum_by-cons (λ l. length (interval_counts es (numbers l))) l ls
        ∙ ap₂ (λ a b. a + b) (length-map-range_with_len (count_in es (numbers l)) 0 (intervals es))
        (each ls)
        ∙ grind arith

first_many : (m n : ℕ) → item_limit < m → first_spoil (too_many m) (too_many n) ≡ Some Size
first_many m n p =
    let e : nat_lt item_limit m ≡ true = grind (arith, p) in
    ap (λ b. first_spoil (if b then Some Size else None) (too_many n)) e ∙ go (nat_lt item_limit n)
  where
    go : (b : Bool) → first_spoil (Some Size) (if b then Some Size else None) ≡ Some Size
    go true = refl
    go false = refl

second_many : (m n : ℕ) → item_limit < n → first_spoil (too_many m) (too_many n) ≡ Some Size
second_many m n p =
    let e : nat_lt item_limit n ≡ true = grind (arith, p) in
    ap (λ b. first_spoil (too_many m) (if b then Some Size else None)) e ∙ go (nat_lt item_limit m)
  where
    go : (b : Bool) → first_spoil (if b then Some Size else None) (Some Size) ≡ Some Size
    go true = refl
    go false = refl

none_many : (m n : ℕ) → m ≤ item_limit → n ≤ item_limit
    → first_spoil (too_many m) (too_many n) ≡ None
none_many m n p q =
    let e : nat_lt item_limit m ≡ false = grind (arith, p) in
    let f : nat_lt item_limit n ≡ false = grind (arith, q) in
    ap₂ (λ b c. first_spoil (if b then Some Size else None) (if c then Some Size else None)) e f

module _ (es : List ℤ) (s e : Column) (y : Layout) where
  abbrev spoil : Option Spoil
  spoil = (bins_function es).spoil (array_type y) (all_items_at s e y)

  counted : spoil ≡ first_spoil (too_many (total s e y)) (too_many (size_of s * intervals es))
  counted =
      ap₂ (λ m n. first_spoil (too_many m) (too_many n)) (counted_total s e y)
      (counts_total es (all_items_at s e y)
      ∙ ap (λ n. n * intervals es) (length-map-range_with_len (items_at s e y) 0 (size_of s)))

  pub items_many : IsJoined s e y TooMany → spoil ≡ Some Size
  items_many h = counted ∙ first_many (total s e y) (size_of s * intervals es) h

  pub counts_many : item_limit < size_of s * intervals es → spoil ≡ Some Size
  counts_many h = counted ∙ second_many (total s e y) (size_of s * intervals es) h

  pub all_few : total s e y ≤ item_limit → size_of s * intervals es ≤ item_limit → spoil ≡ None
  all_few p q = counted ∙ none_many (total s e y) (size_of s * intervals es) p q

pub never_index : (es : List ℤ) (t : DataType) (ls : List (List Value))
    → (bins_function es).spoil t ls ≡ Some Index → ⊥
never_index es t ls h =
    go (nat_lt item_limit (sum (map (λ (l : List Value). length l) ls)))
    (nat_lt item_limit (sum (map (λ l. length (interval_counts es (numbers l))) ls))) h
  where
    go : (b c : Bool)
        → first_spoil (if b then Some Size else None) (if c then Some Size else None) ≡ Some Index
        → ⊥
    go true true e = cc
    go true false e = cc
    go false true e = cc
    go false false e = cc

pub numbers_taken : (es : List ℤ) (t : DataType) → (bins_function es).refusal t ≡ None
    → is_numbers (present t) ≡ true
numbers_taken es t h = go (is_numbers (present t)) h
  where
    go : (b : Bool) → (if b then None else Some refused.WrongType) ≡ None → b ≡ true
    go true e = refl
    go false e = cc

-- ---- lists one after another

no_more : (es : List ℤ) (vs : List Value) → bins_and 0 es vs ≡ bins es vs
no_more es vs =
    let e : count_nulls vs + 0 ≡ count_nulls vs = omega arith in
    ap (bins_row es (numbers vs)) e

module _ (s e : Column) (y : Layout) (o : Column) (z : Layout) (j : JoinsLists s e y o z) where
  joined_at : (i : ℕ) → i ≤ size_of s → at o i ≡ pos (place_at o i)
  joined_at i p =
      let q : at o i ≡ offset_at s e i = ap (λ c. at c i) j.lane
      ∙ at-lane_of I64 (size_of s + 1) (offset_at s e) i (omega (arith, p)) in
      q ∙ sym (ap (λ w. pos (nat_of w)) q)

  items-count : length (array_items z) ≡ len z
  items-count = ap length (array_items-at z) ∙ length-map-range_with_len (array_item z) 0 (len z)

  below : (i : ℕ) → i ≤ size_of s → place_at o i ≤ len z
  below zero p = omega (arith, j.offsets.first)
  below (suc i) p =
      let q = j.offsets.within i (omega (arith, p)) in
      let r = j.lengths i (omega (arith, p)) in
      let one : i + 1 ≡ suc i = omega arith in
      subst (λ k. place_at o k ≤ len z) one (omega (arith, q, r))

  rising : AreRising o (size_of s) (length (array_items z))
  rising = record {
    kind = j.offsets.offsets.kind;
    size = j.offsets.size;
    positive = λ i p. rw (joined_at i p) (omega (arith, ints));
    ordered = λ i p. omega (arith, j.lengths i p);
    within = λ i p. omega (arith, below i p, items-count);
  }

  list_same : (i : ℕ) → i < size_of s → items_at s e y i ≡ list_at (array_items z) o i
  list_same i p =
      let up = j.lengths i p in
      ap value_list (j.lists i p)
      ∙ value_list-run (array_item z) (place_at o i) (place_at o (i + 1) - place_at o i)
      ∙ sym (ap (λ vs. list_at vs o i) (array_items-at z)
      ∙ part-range (array_item z) (len z) (place_at o i) (place_at o (i + 1)) (omega (arith, up))
      (below (i + 1) (omega (arith, p))))

  pub are_items : (n : ℕ) → n ≡ size_of s → total s e y ≤ item_limit → size_of s < 2 ^ 63
      → is_numbers (present (array_type y)) ≡ true → AreItems z o n
  are_items n ne few fits h = record {
    numbers = ap (λ t. is_numbers (present t)) j.typ ∙ h;
    rising = subst (λ m. AreRising o m (length (array_items z))) (sym ne) rising;
    first = j.offsets.first;
    last =
        subst (λ m. place_at o m ≡ length (array_items z)) (sym ne)
        (j.offsets.last ∙ sym items-count);
    few = omega (arith, ap length j.column, few);
    fits = omega (arith, ne, fits);
  }

  pub lists_binned : (es : List ℤ) (class : Class) (n : ℕ) (w : Layout) → n ≡ size_of s
      → total s e y ≤ item_limit → size_of s * intervals es ≤ item_limit
      → IsColumn bins_type (λ i. bins_and 0 es (list_at (array_items z) o i)) n w
      → IsMade (bins_function es) class s e y (made.Singles w)
  lists_binned es class n w ne few counts c = (
    all_few es s e y few counts,
    record {
      valid = c.valid;
      size = c.size ∙ ne;
      typ = c.typ;
      items = λ i l.
          c.items i (omega (arith, l, ne))
          ∙ ap (simple_value bins_type)
          (no_more es (list_at (array_items z) o i) ∙ ap (bins es) (sym (list_same i l)));
    },
  )

pub few_told : (b : Bool) (n : ℕ) → b ≡ nat_le n item_limit → b ≡ true → n ≤ item_limit
few_told b n e h = leb-true n item_limit (sym e ∙ h)
