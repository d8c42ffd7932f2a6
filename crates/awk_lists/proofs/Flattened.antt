-- Lists of a column joined: what is made of them, and when they are too many.
use Rattle.std.specs.Prelude.{◌≡◌, ℕ, zero, suc, ◌+◌, ◌-◌, ◌<◌, ◌≤◌, true, false, refl}
use Rattle.std.specs.Prelude.{List, length, map, take, drop, sum, ℤ, pos, negsuc, ◌≤ℤ◌, Bool}
use Rattle.std.specs.Prelude.{Some, None, if◌then◌else◌}
use Rattle.std.specs.List.{AllByRecursion, range_with_len}
use Rattle.std.proofs.Common.{arith, ap, sym, ◌∙◌, subst}
use Rattle.std.proofs.lemmas.Int.{ints}
use Rattle.std.proofs.lemmas.List.{take-map, drop-map}
use Rattle.awk_types.specs.DataType.{DataType}
use Rattle.awk_types.specs.Datum.{Datum}
use Rattle.awk_types.specs.Has.{Has}
use Rattle.awk_types.specs.Parts.{item_of}
use Rattle.awk_types.specs.Simple.{present, simple, simple_value}
use Rattle.awk_types.specs.Value.{Value, value_list}
use Rattle.awk_types.specs.ItemLimit.{item_limit}
use Rattle.awk_types.proofs.SimpleLaws.{simple_twice, simple_is_simple, value_stays, each_stays}
use Rattle.awk_lanes.specs.Column.{Column}
use Rattle.awk_lanes.specs.Numbers.{nat_of}
use Rattle.awk_lanes.specs.Places.{size_of, at, place_at, IsIndex}
use Rattle.awk_layout.specs.Layout.{Layout}
use Rattle.awk_layout.specs.Item.{run}
use Rattle.awk_layout.specs.Typing.{layout_type, array_type, array_items}
use Rattle.awk_layout.specs.Valid.{len}
use Rattle.awk_layout.proofs.ArrayItems.{length-array_items}
use Rattle.awk_gather.specs.Arrays.{array_item}
use Rattle.awk_columns.specs.Columns.{joined_items}
use Rattle.awk_gather_lanes.specs.Lanes.{picked}
use Rattle.awk_gather_lanes.proofs.PickedLanes.{size-picked, at-picked}
use Rattle.awk_columns.specs.Joined.{AreOffsets, JoinsLists}
use Rattle.awk_list_functions.specs.Lifting.{lift}
use Rattle.awk_columns.specs.ListClass.{Class}
use Rattle.awk_list_functions.specs.Made.{AreGiven}
use Rattle.awk_columns.specs.Lists.{AreLists, items_at, all_items_at}
use Rattle.awk_list_functions.specs.Spoils.{too_many}
use Rattle.awk_list_functions.specs.declared.causes.Refusal.TheVariants as refused
use Rattle.awk_list_functions.specs.declared.causes.Spoil.TheVariants.{Size}
use Rattle.awk_columns.specs.declared.lists.Joined.TheVariants.{TooMany}
use Rattle.awk_lists.specs.Flatten.{flatten_function, flatten_of}
use Rattle.awk_types.specs.Predicates.{is_list_or_unknown}
use Rattle.awk_types.proofs.ItemLimits.{nat_lt-over, nat_lt-within}
use Rattle.awk_lists.specs.Listed.{items_before, AreListed, IsListed}
use Rattle.awk_lists.proofs.Ends.{rising_offsets, joined_at}
use Rattle.awk_lists.proofs.JoinedItems.{items_before-add, items_before-mono, items_before-all}
use Rattle.awk_lists.proofs.JoinedItems.{slice-joined, count-joined}
use Rattle.awk_list_ends.proofs.KeptItems.{run-slice}

-- what is accepted are lists
pub are_lists : (t : DataType) → flatten_function.refusal t ≡ None
    → is_list_or_unknown (present t) ≡ true
are_lists t h = go (is_list_or_unknown (present t)) h
  where
    go : (b : Bool) → (if b then None else Some refused.Axis) ≡ None → b ≡ true
    go true e = refl
    go false e = cc

-- the items of an array, as items of its type
pub items_stay : (z : Layout) (t : DataType) → array_type z ≡ t
    → AllByRecursion (Has (array_type z)) (array_items z)
    → map (simple_value t) (array_items z) ≡ array_items z
items_stay z t e has =
    ap (λ u. map (simple_value u) (array_items z)) (sym e)
    ∙ each_stays (array_type z) (simple_value (array_type z))
    (λ v k. value_stays (array_type z) v (simple_is_simple (layout_type z)) k)
    (array_items z) has

-- ---- the offsets

module _ (s e : Column) (y : Layout) (rows : Column) (lists : Layout) (o : Column) (z : Layout)
    (class : Class) (a : AreLists class s e y) (j : JoinsLists s e y rows lists)
    (h : AreListed lists o z) where
  abbrev vs : List Value
  vs = array_items lists

  row_below : (i : ℕ) → i ≤ size_of s → place_at rows i ≤ length vs
  row_below zero p = omega (arith, j.offsets.first)
  row_below (suc i) p =
      let within = j.offsets.within i (omega (arith, p)) in
      let grown = j.lengths i (omega (arith, p)) in
      let e : i + 1 ≡ suc i = omega arith in
      subst (λ k. place_at rows k ≤ length vs) e
      (omega (arith, within, grown, length-array_items lists))

  pub rows_index : IsIndex rows (size_of o)
  rows_index = record {
    kind = j.offsets.offsets.kind;
    places = λ i p.
        let q : i ≤ size_of s = omega (arith, p, j.offsets.size) in
        let here = joined_at s e y rows lists j i q in
        (rw here (omega (arith, ints)), omega (arith, row_below i q, h.ends.size));
  }

  at-ends : (i : ℕ) → i ≤ size_of s
      → at (picked o rows) i ≡ pos (items_before vs (place_at rows i))
  at-ends i p =
      at-picked o rows i (omega (arith, p, j.offsets.size))
      ∙ h.ends.ends (place_at rows i) (row_below i p)

  place-ends : (i : ℕ) → i ≤ size_of s
      → place_at (picked o rows) i ≡ items_before vs (place_at rows i)
  place-ends i p = ap nat_of (at-ends i p)

  whole : length (array_items z) ≡ length (joined_items vs)
  whole = ap length h.column

  ends_offsets : AreOffsets (picked o rows) (size_of s) (len z)
  ends_offsets =
      rising_offsets (picked o rows) (size_of s) (len z)
      (λ i. items_before vs (place_at rows i)) h.ends.kind
      (size-picked o rows ∙ j.offsets.size)
      a.fits at-ends
      (λ i p. items_before-mono vs (place_at rows i) (place_at rows (i + 1))
      (omega (arith, j.lengths i p)))
      (ap (items_before vs) j.offsets.first)
      (items_before-all vs (place_at rows (size_of s))
      (omega (arith, j.offsets.last, length-array_items lists))
      ∙ sym whole ∙ length-array_items z)

  -- ---- the lists

  joined_list : (i : ℕ) → i < size_of s
      → value_list (run (array_item z) (place_at (picked o rows) i)
      (place_at (picked o rows) (i + 1) - place_at (picked o rows) i))
      ≡ joined_items (items_at s e y i)
  joined_list i p =
      let start : ℕ = place_at rows i in
      let n : ℕ = place_at e i - place_at s i in
      let stop : place_at rows (i + 1) ≡ start + n = j.lengths i p in
      let c = place-ends i (omega (arith, p)) in
      let d : place_at (picked o rows) (i + 1) ≡ items_before vs (start + n) =
      place-ends (i + 1) (omega (arith, p)) ∙ ap (items_before vs) stop in
      let more = items_before-add vs start n in
      let size : place_at (picked o rows) (i + 1) - place_at (picked o rows) i
      ≡ items_before (drop start vs) n = omega (arith, c, d, more) in
      let within = ends_offsets.within i p in
      let same : place_at rows (i + 1) - place_at rows i ≡ n = omega (arith, stop) in
      let inside = j.offsets.within i p in
      run-slice z (place_at (picked o rows) i)
      (place_at (picked o rows) (i + 1) - place_at (picked o rows) i) within
      ∙ ap (λ k. take k (drop (place_at (picked o rows) i) (array_items z))) size
      ∙ ap (λ k. take (items_before (drop start vs) n) (drop k (array_items z))) c
      ∙ ap (λ ws. take (items_before (drop start vs) n) (drop (items_before vs start) ws)) h.column
      ∙ slice-joined vs start n
      ∙ ap joined_items (sym (run-slice lists start n (omega (arith, same, inside))))
      ∙ ap (λ k. joined_items (value_list (run (array_item lists) start k))) (sym same)
      ∙ ap (λ r. joined_items (value_list r)) (sym (j.lists i p))

  -- ---- the items

  abbrev t : DataType
  t = item_of (present (array_type y))

  made_type : array_type z ≡ t
  made_type = h.typ ∙ ap (λ u. item_of (present u)) j.typ

  stay : AllByRecursion (Has (array_type z)) (array_items z)
      → map (simple_value t) (array_items z) ≡ array_items z
  stay has = items_stay z t made_type has

  part_stays : AllByRecursion (Has (array_type z)) (array_items z) → (i : ℕ) → i < size_of s
      → map (simple_value t) (joined_items (items_at s e y i)) ≡ joined_items (items_at s e y i)
  part_stays has i p =
      let first : ℕ = place_at (picked o rows) i in
      let n : ℕ = place_at (picked o rows) (i + 1) - first in
      let part : take n (drop first (array_items z)) ≡ joined_items (items_at s e y i) =
      sym (run-slice z first n (ends_offsets.within i p)) ∙ joined_list i p in
      ap (map (simple_value t)) (sym part)
      ∙ sym (take-map (simple_value t) n (drop first (array_items z)))
      ∙ ap (take n) (sym (drop-map (simple_value t) first (array_items z)))
      ∙ ap (λ ws. take n (drop first ws)) (stay has)
      ∙ part

  pub are_given : AllByRecursion (Has (array_type z)) (array_items z)
      → AreGiven None t (λ ws. joined_items ws) s e y (picked o rows) z
  are_given has = record {
    valid = h.valid;
    offsets = ends_offsets;
    even = tt;
    typ = sym (simple_twice (layout_type z)) ∙ ap simple made_type;
    lists = λ i p. joined_list i p ∙ sym (part_stays has i p);
  }

-- ---- how many there are

module _ (s e : Column) (y : Layout) (rows : Column) (lists : Layout)
    (j : JoinsLists s e y rows lists) where
  counted_all : sum (map (λ ws. length (joined_items ws)) (all_items_at s e y))
      ≡ length (joined_items (array_items lists))
  counted_all =
      count-joined (items_at s e y) (range_with_len 0 (size_of s))
      ∙ ap (λ ws. length (joined_items ws)) (sym j.column)

  pub too_many_joined : IsListed lists TooMany
      → flatten_function.spoil (array_type y) (all_items_at s e y) ≡ Some Size
  too_many_joined h =
      ap too_many counted_all
      ∙ ap (λ b. if b then Some Size else None)
      (nat_lt-over (length (joined_items (array_items lists))) h)

  pub few_joined : length (joined_items (array_items lists)) ≤ item_limit
      → flatten_function.spoil (array_type y) (all_items_at s e y) ≡ None
  few_joined h =
      ap too_many counted_all
      ∙ ap (λ b. if b then Some Size else None)
      (nat_lt-within (length (joined_items (array_items lists))) h)

-- ---- the axis

pub flatten_at : (axis : ℤ) (d : Datum) → pos 1 ≤ℤ axis
    → lift flatten_function (pos (nat_of axis - 1)) d ≡ flatten_of axis d
flatten_at (pos zero) d p = absurd (omega (arith, ints, p))
flatten_at (pos (suc k)) d p =
    let e : suc k - 1 ≡ k = omega arith in ap (λ n. lift flatten_function (pos n) d) e
flatten_at (negsuc k) d p = absurd (omega (arith, ints, p))
