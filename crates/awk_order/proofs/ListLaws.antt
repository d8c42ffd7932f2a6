-- What is made of lists, by their items one after another.
use Rattle.std.specs.Prelude.{◌≡◌, ℕ, zero, suc, ◌+◌, ◌-◌, ◌*◌, ◌<◌, ◌≤◌, ◌^◌, refl, true, false}
use Rattle.std.specs.Prelude.{Bool, List, [], ◌∷◌, length, map, sum, pos, Some, None, if◌then◌else◌}
use Rattle.std.proofs.Common.{arith, ap, ap₂, sym, ◌∙◌, subst}
use Rattle.std.proofs.lemmas.Int.{ints}
use Rattle.std.proofs.lemmas.List.FromFn.{length-map-range_with_len}
use Rattle.awk_base.proofs.Ranges.{part-range}
use Rattle.awk_types.specs.DataType.{DataType}
use Rattle.awk_types.specs.ItemLimit.{item_limit}
use Rattle.awk_types.specs.Predicates.{is_leaf}
use Rattle.awk_types.specs.Simple.{present, simple, simple_value}
use Rattle.awk_types.specs.Value.{Value, value_list}
use Rattle.awk_lanes.specs.Column.{Column}
use Rattle.awk_lanes.specs.Numbers.{nat_of}
use Rattle.awk_lanes.specs.Places.{size_of, at, place_at}
use Rattle.awk_lanes.specs.declared.kind.Kind.TheVariants.{I64}
use Rattle.awk_lanes.proofs.MadeLanes.{at-lane_of}
use Rattle.awk_layout.specs.Layout.{Layout}
use Rattle.awk_layout.specs.Typing.{array_type, array_items}
use Rattle.awk_layout.specs.Valid.{len}
use Rattle.awk_layout.proofs.Runs.{value_list-run}
use Rattle.awk_gather.specs.Arrays.{array_item}
use Rattle.awk_counts.specs.Counted.{offset_at}
use Rattle.awk_columns.specs.Joined.{AreOffsets, JoinsLists, total, IsJoined}
use Rattle.awk_columns.specs.ListClass.{Class}
use Rattle.awk_columns.specs.ListNode.{AreEven}
use Rattle.awk_columns.specs.Lists.{AreOfClass, items_at, all_items_at}
use Rattle.awk_columns.specs.declared.lists.Joined.TheVariants.{TooMany}
use Rattle.awk_columns.proofs.ArrayLaws.{array_items-at}
use Rattle.awk_columns.proofs.OffsetLaws.{counted_total}
use Rattle.awk_list_functions.specs.Made.{IsMade}
use Rattle.awk_list_functions.specs.Spoils.{too_many}
use Rattle.awk_list_functions.specs.declared.causes.Refusal.TheVariants as refused
use Rattle.awk_list_functions.specs.declared.causes.Spoil.TheVariants.{Index, Size}
use Rattle.awk_list_functions.specs.declared.function.Made.TheVariants as made
use Rattle.awk_parts.specs.Parts.{AreRising}
use Rattle.awk_present.specs.Present.{list_at}
use Rattle.awk_order.specs.Lists.{AreItems, AreMade}
use Rattle.awk_order.specs.Sort.{leaf_lists}
use Rattle.awk_list_functions.proofs.SpoilLimits.{over_limit, within_limit}
use Rattle.awk_list_functions.proofs.IndexLaws.{too_many-never}

-- ---- counts

module _ (typ : DataType → DataType) (items : List Value → List Value) where
  pub lists_spoilt : (s e : Column) (y : Layout) → IsJoined s e y TooMany
      → (leaf_lists typ items).spoil (array_type y) (all_items_at s e y) ≡ Some Size
  lists_spoilt s e y h = ap too_many (counted_total s e y) ∙ over_limit (total s e y) h

  -- no list is refused for a place
  pub lists_never : (t : DataType) (ls : List (List Value))
      → (leaf_lists typ items).spoil t ls ≡ Some Index → ⊥
  lists_never t ls h = too_many-never (sum (map (λ (l : List Value). length l) ls)) h

  pub leaves_taken : (t : DataType) → (leaf_lists typ items).refusal t ≡ None
      → is_leaf (present t) ≡ true
  leaves_taken t h = go (is_leaf (present t)) h
    where
      go : (b : Bool) → (if b then None else Some refused.WrongType) ≡ None → b ≡ true
      go true e = refl
      go false e = cc

-- ---- lists one after another

map-id-by : {X : Type 0} (f : X → X) (xs : List X) → ((x : X) → f x ≡ x) → map f xs ≡ xs
map-id-by f [] h = refl
map-id-by f (x ∷ xs) h = ap₂ (λ y ys. y ∷ ys) (h x) (map-id-by f xs h)

module _ (s e : Column) (y : Layout) (o : Column) (z : Layout) (j : JoinsLists s e y o z) where
  joined_at : (i : ℕ) → i ≤ size_of s → at o i ≡ pos (place_at o i)
  joined_at i p =
      let q : at o i ≡ offset_at s e i = ap (λ c. at c i) j.lane
      ∙ at-lane_of I64 (size_of s + 1) (offset_at s e) i (omega (arith, p)) in
      q ∙ sym (ap (λ w. pos (nat_of w)) q)

  items-count : length (array_items z) ≡ len z
  items-count = ap length (array_items-at z) ∙ length-map-range_with_len (array_item z) 0 (len z)

  below : (i : ℕ) → i ≤ size_of s → place_at o i ≤ len z
  below zero p = omega (arith, j.offsets.first)
  below (suc i) p =
      let q = j.offsets.within i (omega (arith, p)) in
      let r = j.lengths i (omega (arith, p)) in
      let one : i + 1 ≡ suc i = omega arith in
      subst (λ k. place_at o k ≤ len z) one (omega (arith, q, r))

  lists_rise : AreRising o (size_of s) (len z)
  lists_rise = record {
    kind = j.offsets.offsets.kind;
    size = j.offsets.size;
    positive = λ i p. rw (joined_at i p) (omega (arith, ints));
    ordered = λ i p. omega (arith, j.lengths i p);
    within = below;
  }

  list_same : (i : ℕ) → i < size_of s → items_at s e y i ≡ list_at (array_items z) o i
  list_same i p =
      let up = j.lengths i p in
      ap value_list (j.lists i p)
      ∙ value_list-run (array_item z) (place_at o i) (place_at o (i + 1) - place_at o i)
      ∙ sym (ap (λ vs. list_at vs o i) (array_items-at z)
      ∙ part-range (array_item z) (len z) (place_at o i) (place_at o (i + 1)) (omega (arith, up))
      (below (i + 1) (omega (arith, p))))

  pub are_items : (n : ℕ) → n ≡ size_of s → total s e y ≤ item_limit → size_of s < 2 ^ 63
      → is_leaf (present (array_type y)) ≡ true → AreItems z o n
  are_items n ne few fits leaves = record {
    leaves = ap (λ t. is_leaf (present t)) j.typ ∙ leaves;
    rising = subst (λ m. AreRising o m (len z)) (sym ne) lists_rise;
    first = j.offsets.first;
    last = subst (λ m. place_at o m ≡ len z) (sym ne) j.offsets.last;
    few = omega (arith, ap length j.column, items-count, few);
    fits = omega (arith, ne, fits);
  }

  -- lists of one size stay so
  even_joined : (class : Class) → AreOfClass class s e → AreEven class o (size_of s)
  even_joined None h = tt
  even_joined (Some m) h = go
    where
      go : (i : ℕ) → i ≤ size_of s → place_at o i ≡ i * m
      go zero p = j.offsets.first ∙ omega arith
      go (suc i) p =
          let one : i + 1 ≡ suc i = omega arith in
          let up = j.lengths i (omega (arith, p)) in
          let size = h i (omega (arith, p)) in
          let next : suc i * m ≡ i * m + m = grind arith in
          ap (place_at o) (sym one) ∙ omega (arith, up, size, next, go i (omega (arith, p)))

  -- what is made of the items is made of the lists
  pub made_of_lists : (typ : DataType → DataType) (items : List Value → List Value) (class : Class)
      (u : DataType) (w : Layout) → AreOfClass class s e → total s e y ≤ item_limit
      → u ≡ typ (array_type y) → simple u ≡ u → ((v : Value) → simple_value u v ≡ v)
      → AreMade u items z o (size_of s) w
      → IsMade (leaf_lists typ items) class s e y (made.Lists o w)
  made_of_lists typ items class u w same few ue plain plain_value m = (
    ap too_many (counted_total s e y) ∙ within_limit (total s e y) few,
    record {
      valid = m.valid;
      offsets = subst (AreOffsets o (size_of s)) (sym m.size) j.offsets;
      even = even_joined class same;
      typ = m.typ ∙ sym plain ∙ ap simple ue;
      lists = λ i l.
          m.lists i l ∙ ap items (sym (list_same i l))
          ∙ sym (map-id-by (simple_value u) (items (items_at s e y i)) plain_value)
          ∙ ap (λ t. map (simple_value t) (items (items_at s e y i))) ue;
    },
  )
