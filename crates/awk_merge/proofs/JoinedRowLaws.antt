-- The lists of each row joined: their items, and the lists by offsets into these.
use Rattle.std.proofs.Common.{◌≡◌, ◌∙◌, ◌+◌, ◌-◌, ◌*◌, ◌<◌, ◌≤◌, [], ℕ, Bool, true, false, List}
use Rattle.std.proofs.Common.{Option, Some, None, Ok, Err, ap, ap₂, sym, subst, refl, map, length}
use Rattle.std.proofs.Common.{get_or, arith}
use Rattle.std.specs.Prelude.{pos, is_some, if◌then◌else◌}
use Rattle.std.specs.List.{flat_map, list_all, range_with_len}
use Rattle.std.proofs.lemmas.Int.{ints}
use Rattle.std.proofs.lemmas.Nat.{row_fits}
use Rattle.std.proofs.lemmas.List.Folds.{flat_map-map, list_all-map}
use Rattle.std.proofs.lemmas.List.FromFn.{get_or-map-range_with_len}
use Rattle.awk_base.proofs.Numbers.{times-le}
use Rattle.awk_base.proofs.Ranges.{map-in, flat-in}
use Rattle.awk_types.proofs.RefusalLaws.{refused_or-None}
use Rattle.awk_types.proofs.Trees.{values_from-list, value_list-from}
use Rattle.awk_types.specs.DataType.{DataType, var}
use Rattle.awk_types.specs.Datum as shown
use Rattle.awk_types.specs.Gives.{refused_or}
use Rattle.awk_types.specs.ItemLimit.{item_limit, too_many}
use Rattle.awk_types.specs.Simple.{simple_value}
use Rattle.awk_types.specs.Value.{Value, null, list, value_list, values_from}
use Rattle.awk_types.specs.declared.fault.Fault.TheVariants.{Size}
use Rattle.awk_types.proofs.ItemLimits.{over_limit, within_limit}
use Rattle.awk_lanes.specs.Column.{Column}
use Rattle.awk_lanes.specs.Numbers.{nat_of}
use Rattle.awk_lanes.specs.Places.{size_of, at, place_at, IsOffsets}
use Rattle.awk_lanes.proofs.PlaceLaws.{element-at}
use Rattle.awk_lanes.specs.declared.kind.Kind.TheVariants.{I64}
use Rattle.awk_layout.specs.Item.{item, run, at_option}
use Rattle.awk_layout.specs.Layout.{Layout, offset_lists}
use Rattle.awk_layout.specs.Typing.{layout_type, array_type, array_items, array_datum}
use Rattle.awk_layout.specs.Valid.{len}
use Rattle.awk_gather.specs.Arrays.{array_item}
use Rattle.awk_columns.specs.Columns.{is_present, list_items, joined_items}
use Rattle.awk_counts.specs.Counted.{offset_at}
use Rattle.awk_lanes.proofs.MadeLanes.{size-lane_of, at-lane_of}
use Rattle.awk_columns.specs.Joined.{JoinsLists, total}
use Rattle.awk_columns.specs.Lists.{items_at}
use Rattle.awk_columns.proofs.ArrayLaws.{array_items-at, run_in_list}
use Rattle.awk_merge_operands.specs.Operands.{stacked_row, filled_row, filled_rows, rows_datum}
use Rattle.awk_merge_operands.specs.Operands.{list_place, values_by, list_between, is_whole}
use Rattle.awk_merge_operands.specs.Operands.{rows_lane, ends_in_rows, offsets_of_rows, AreRising}
use Rattle.awk_merge_operands.proofs.ListPlaceLaws.{cell, block_within, size-ends, row_items}
use Rattle.awk_merge_operands.proofs.ListPlaceLaws.{items-end}
use Rattle.awk_merge.proofs.RangeLaws.{all-range, flat-none, flat-blocks, rises, runs-joined}

-- ---- the values of a row, by the places of their lists

module _ (index : Option Column) (n k : ℕ) (f : ℕ → Value) where
  abbrev by_place : ℕ → ℕ → Value
  by_place i j = at_option (list_place index (j * n + i)) f

  pub row-values : (i : ℕ) → i < n
      → stacked_row n k (values_by index (k * n) f) i ≡ map (by_place i) (range_with_len 0 k)
  row-values i p =
      map-in (λ j. get_or (values_by index (k * n) f) (j * n + i) null) (by_place i) 0 k
      (λ j q. get_or-map-range_with_len (λ m. at_option (list_place index m) f) 0 (k * n)
      (j * n + i)
      (j * n + i) null (cell n k i j p (omega (arith, q))) (omega arith))

  some_present : ((p : ℕ) → is_present (f p) ≡ true) → (o : Option ℕ)
      → is_present (at_option o f) ≡ is_some o
  some_present h None = refl
  some_present h (Some p) = h p

  pub row-whole : ((p : ℕ) → is_present (f p) ≡ true) → (i : ℕ) → i < n
      → list_all is_present (stacked_row n k (values_by index (k * n) f) i) ≡ is_whole index n k i
  row-whole h i p =
      ap (list_all is_present) (row-values i p)
      ∙ list_all-map is_present (by_place i) (range_with_len 0 k)
      ∙ all-range (λ j. is_present (by_place i j)) (λ j. is_some (list_place index (j * n + i))) 0 k
      (λ j q. some_present h (list_place index (j * n + i)))

  row-joined : (i : ℕ) → i < n → joined_items (stacked_row n k (values_by index (k * n) f) i)
      ≡ flat_map (λ j. list_items (by_place i j)) (range_with_len 0 k)
  row-joined i p =
      ap joined_items (row-values i p) ∙ flat_map-map list_items (by_place i) (range_with_len 0 k)

-- ---- the lists that are joined

module _ (index : Option Column) (n k : ℕ) (s t : Column) (y : Layout) where
  abbrev starts : Column
  starts = ends_in_rows index (rows_lane index n k) k s

  abbrev stops : Column
  stops = ends_in_rows index (rows_lane index n k) k t

  abbrev values : List Value
  values = values_by index (k * n) (list_between s t y)

  abbrev one_row : ℕ → List Value
  one_row i = flat_map (λ j. items_at starts stops y (i * k + j)) (range_with_len 0 k)

  by_row : (b : Bool) (i : ℕ)
      → flat_map (λ j. row_items index n k b (list_place index (j * n + i)) s t y)
      (range_with_len 0 k)
      ≡ (if b then flat_map (λ j. list_items (at_option (list_place index (j * n + i))
      (list_between s t y)))
      (range_with_len 0 k) else [])
  by_row true i = refl
  by_row false i = flat-none 0 k

  row-is : (i : ℕ) → i < n → one_row i
      ≡ (if is_whole index n k i then joined_items (stacked_row n k values i) else [])
  row-is i p =
      flat-in (λ j. items_at starts stops y (i * k + j))
      (λ j. row_items index n k (is_whole index n k i) (list_place index (j * n + i)) s t y) 0 k
      (λ j q. items-end index n k s t y i j p (omega (arith, q)))
      ∙ by_row (is_whole index n k i) i
      ∙ ap (λ vs. if is_whole index n k i then vs else [])
      (sym (row-joined index n k (list_between s t y) i p))

  pub filled-is : (i : ℕ) → i < n
      → filled_row (stacked_row n k values i) ≡ list (values_from (one_row i))
  filled-is i p =
      ap (λ b. list (values_from (if b then joined_items (stacked_row n k values i) else [])))
      (row-whole index n k (list_between s t y) (λ m. refl) i p)
      ∙ ap (λ vs. list (values_from vs)) (sym (row-is i p))

  pub all-rows : flat_map (items_at starts stops y) (range_with_len 0 (n * k))
      ≡ joined_items (filled_rows n k values)
  all-rows =
      let z : 0 * k ≡ 0 = omega arith in
      ap (λ b. flat_map (items_at starts stops y) (range_with_len b (n * k))) (sym z)
      ∙ flat-blocks (items_at starts stops y) k 0 n
      ∙ sym (flat_map-map list_items (λ i. filled_row (stacked_row n k values i))
      (range_with_len 0 n)
      ∙ flat-in (λ i. list_items (filled_row (stacked_row n k values i))) one_row 0 n
      (λ i p. ap list_items (filled-is i (omega (arith, p))) ∙ value_list-from (one_row i)))

  count : total starts stops y ≡ length (joined_items (filled_rows n k values))
  count =
      ap (λ m. length (flat_map (items_at starts stops y) (range_with_len 0 m)))
      (size-ends index n k s)
      ∙ ap length all-rows

  -- ---- too many, or not

  pub too-many : (u : DataType) → item_limit < total starts stops y
      → rows_datum u (filled_rows n k values) ≡ Err Size
  too-many u h =
      let c = count in
      ap (λ o. refused_or o (shown.arr u (filled_rows n k values)))
      (over_limit (length (joined_items (filled_rows n k values))) (omega (arith, h, c)))

  pub not-many : total starts stops y ≤ item_limit
      → too_many (length (joined_items (filled_rows n k values))) ≡ None
  not-many h =
      let c = count in
      within_limit (length (joined_items (filled_rows n k values))) (omega (arith, h, c))

  -- ---- the joined lists

  module _ (o : Column) (z : Layout) (j : JoinsLists starts stops y o z) where
    made-at : (i : ℕ) → i ≤ n * k → at o i ≡ pos (place_at o i)
    made-at i p =
        let e : at o i ≡ offset_at starts stops i =
        ap (λ c. at c i) j.lane
        ∙ at-lane_of I64 (size_of starts + 1) (offset_at starts stops) i
        (omega (arith, p, size-ends index n k s)) in
        e ∙ sym (ap (λ w. pos (nat_of w)) e)

    grows : (i : ℕ) → i < n * k → place_at o i ≤ place_at o (i + 1)
    grows i p = omega (arith, j.lengths i (omega (arith, p, size-ends index n k s)))

    pub are-rising : AreRising o (n * k) (len z)
    are-rising = record {
      kind = j.offsets.offsets.kind;
      size = j.offsets.size ∙ ap (λ m. m + 1) (size-ends index n k s);
      numbers = made-at;
      rises = grows;
      last = ap (place_at o) (sym (size-ends index n k s)) ∙ j.offsets.last;
    }

    abbrev offsets : Column
    offsets = offsets_of_rows o n k

    place-offset : (i : ℕ) → i ≤ n → place_at offsets i ≡ place_at o (i * k)
    place-offset i p =
        ap nat_of (at-lane_of o.kind (n + 1) (λ r. at o (r * k)) i (omega (arith, p)) ∙ element-at o
        (i * k))

    between : (i : ℕ) → i < n
        → value_list (run (array_item z) (place_at o (i * k))
        (place_at o (i * k + k) - place_at o (i * k)))
        ≡ one_row i
    between i p =
        runs-joined (array_item z) (place_at o) (i * k) k
        (λ r q. grows (i * k + r) (block_within n k i r p q))
        ∙ flat-in (λ r. value_list (run (array_item z) (place_at o (i * k + r))
        (place_at o (i * k + r + 1) - place_at o (i * k + r))))
        (λ r. items_at starts stops y (i * k + r)) 0 k
        (λ r q. ap value_list (sym (j.lists (i * k + r)
        (omega (arith, block_within n k i r p (omega (arith, q)), size-ends index n k s)))))

    item-is : (i : ℕ) → i < n
        → array_item (offset_lists offsets z) i ≡ filled_row (stacked_row n k values i)
    item-is i p =
        let next : (i + 1) * k ≡ i * k + k = grind arith in
        let a = place-offset i (omega (arith, p)) in
        let b : place_at offsets (i + 1) ≡ place_at o (i * k + k) =
        place-offset (i + 1) (omega (arith, p)) ∙ ap (place_at o) next in
        run_in_list (simple_value (layout_type z)) (item z) (place_at offsets i)
        (place_at offsets (i + 1) - place_at offsets i)
        ∙ ap₂ (λ l m. list (run (array_item z) l (m - l))) a b
        ∙ ap list (sym (values_from-list (run (array_item z) (place_at o (i * k))
        (place_at o (i * k + k) - place_at o (i * k)))))
        ∙ ap (λ vs. list (values_from vs)) (between i p)
        ∙ sym (filled-is i p)

    pub joined-len : len (offset_lists offsets z) ≡ n
    joined-len =
        let e = size-lane_of o.kind (n + 1) (λ r. at o (r * k)) in omega (arith, e)

    pub joined-lists : array_items (offset_lists offsets z) ≡ filled_rows n k values
    joined-lists =
        array_items-at (offset_lists offsets z)
        ∙ ap (λ m. map (array_item (offset_lists offsets z)) (range_with_len 0 m)) joined-len
        ∙ map-in (array_item (offset_lists offsets z)) (λ i. filled_row (stacked_row n k values i))
        0 n
        (λ i p. item-is i (omega (arith, p)))

    pub joined-type : array_type (offset_lists offsets z) ≡ var (array_type y)
    joined-type = ap var j.typ

    pub joined-datum : total starts stops y ≤ item_limit
        → rows_datum (var (array_type y)) (filled_rows n k values)
        ≡ Ok (array_datum (offset_lists offsets z))
    joined-datum h =
        refused_or-None (too_many (length (joined_items (filled_rows n k values))))
        (shown.arr (var (array_type y)) (filled_rows n k values))
        (array_datum (offset_lists offsets z)) (not-many h)
        (ap₂ shown.arr (sym joined-type) (sym joined-lists))

-- ---- every k-th offset is an offset

module _ (o : Column) (n k whole : ℕ) (h : AreRising o (n * k) whole) where
  at-start : (i : ℕ) → i ≤ n → at (offsets_of_rows o n k) i ≡ pos (place_at o (i * k))
  at-start i p =
      at-lane_of o.kind (n + 1) (λ r. at o (r * k)) i (omega (arith, p))
      ∙ element-at o (i * k) ∙ h.numbers (i * k) (times-le i n k p)

  up_to : (i m : ℕ) → i + m ≤ n * k → place_at o i ≤ place_at o (i + m)
  up_to i m p = rises (place_at o) i m (λ r q. h.rises (i + r) (omega (arith, p, q)))

  pub rows-offsets : IsOffsets (offsets_of_rows o n k) whole
  rows-offsets = record {
    kind = h.kind;
    some = omega (arith, size-lane_of o.kind (n + 1) (λ r. at o (r * k)));
    ordered = λ i p.
        let q : i < n = omega (arith, p, size-lane_of o.kind (n + 1) (λ r. at o (r * k))) in
        let next : (i + 1) * k ≡ i * k + k = grind arith in
        let within : i * k + k ≤ n * k = row_fits i k n k q (omega arith) in
        let a = at-start i (omega (arith, q)) in
        let b : at (offsets_of_rows o n k) (i + 1) ≡ pos (place_at o (i * k + k)) =
        at-start (i + 1) (omega (arith, q)) ∙ ap (λ m. pos (place_at o m)) next in
        let c : place_at o (i * k) ≤ place_at o (i * k + k) = up_to (i * k) k within in
        let e : i * k + k + (n * k - (i * k + k)) ≡ n * k = omega (arith, within) in
        let d : place_at o (i * k + k) ≤ place_at o (n * k) =
        subst (λ m. place_at o (i * k + k) ≤ place_at o m) e
        (up_to (i * k + k) (n * k - (i * k + k)) (omega (arith, e))) in
        rw (a, b) (λ u. (
          omega (arith, ints),
          omega (arith, ints, c),
          omega
              (arith, ints, d, h.last),
        ));
  }
