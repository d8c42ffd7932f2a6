-- What the tuples of operands are as an array, and what is told of them.
use Rattle.std.specs.Prelude.{◌≡◌, refl, ℕ, ◌+◌, ◌-◌, ◌<◌, ◌≤◌, ◌^◌, Bool, true, false, ◌||◌}
use Rattle.std.specs.Prelude.{if◌then◌else◌, List, [], ◌∷◌, length, map, get_or, ℤ, pos, negsuc}
use Rattle.std.specs.Prelude.{◌<ℤ◌, Option, Some, None, is_some, option_map, Ok, Err}
use Rattle.std.specs.List.{range_with_len, list_all, list_any, AllByRecursion}
use Rattle.std.proofs.Common.{arith, ap, ap₂, sym, ◌∙◌}
use Rattle.std.proofs.lemmas.Int.{ints}
use Rattle.awk_base.proofs.Ranges.{map-same}
use Rattle.awk_types.specs.DataType.{DataType, var, opt}
use Rattle.awk_types.specs.Datum as shown
use Rattle.awk_types.specs.Gives.{refused_or}
use Rattle.awk_types.specs.ItemLimit.{too_many}
use Rattle.awk_types.specs.Simple.{option_if, simple_value, in_option}
use Rattle.awk_types.specs.Value.{Value, null, list, value_list, values_from}
use Rattle.awk_types.specs.declared.fault.Fault.TheVariants.{Size}
use Rattle.awk_types.proofs.RefusalLaws.{refused_or-None}
use Rattle.awk_types.proofs.Trees.{value_list-from, values_from-list}
use Rattle.awk_types.proofs.NullLaws.{simple_value-null, in_option-same}
use Rattle.awk_types.proofs.ItemLimits.{over_limit, within_limit}
use Rattle.awk_lanes.specs.Column.{Column}
use Rattle.awk_lanes.specs.Counted.{before}
use Rattle.awk_lanes.specs.declared.kind.Kind.TheVariants.{I64}
use Rattle.awk_lanes.specs.Places.{size_of, at, place_at, option_place, IsOffsets}
use Rattle.awk_lanes.proofs.MadeLanes.{size-lane_of}
use Rattle.awk_lanes.proofs.CountedLanes.{place-offsets}
use Rattle.awk_layout.specs.Datum.{datum_of}
use Rattle.awk_layout.specs.Item.{run, item, at_option}
use Rattle.awk_layout.specs.Layout.{Layout, offset_lists, optional}
use Rattle.awk_layout.specs.Typing.{layout_type, array_type, array_items, array_datum}
use Rattle.awk_layout.specs.Valid.{len}
use Rattle.awk_layout.specs.declared.datum.Datum.{Datum}
use Rattle.awk_layout.proofs.Runs.{value_list-run}
use Rattle.awk_gather.specs.Arrays.{array_item}
use Rattle.awk_columns.specs.Columns.{is_present, list_items, joined_items}
use Rattle.awk_columns.proofs.ArrayLaws.{array_items-at, item-offset_lists}
use Rattle.awk_places.specs.Places.{place_count}
use Rattle.awk_places.specs.Products.{product_count}
use Rattle.awk_columns.proofs.OffsetLaws.{are_offsets, offset-length}
use Rattle.awk_merge_operands.specs.Concatenate.{row_of, row_count}
use Rattle.awk_merge_operands.specs.Operands.{column_in, list_place, IndexesAll}
use Rattle.awk_merge_operands.specs.declared.operands.Axis.{Axis}
use Rattle.awk_merge_operands.specs.declared.operands.Axis.TheVariants.{Arrays, Rows as ByRows}
use Rattle.awk_cartesian.specs.Cartesian.{has_null_rows, item_types, product_type, row_tuples}
use Rattle.awk_cartesian.specs.Cartesian.{rows_tuples, product_values}
use Rattle.awk_products.specs.Tuples.{tuple_type, tuples_of}
use Rattle.awk_cartesian.specs.Products.{row_node, product_node, tuples_fault, counted_product}
use Rattle.awk_cartesian.specs.Products.{IsIndexOf}
use Rattle.awk_cartesian.specs.Sources.{rows_in, may_be_null, present_place, AreRows}
use Rattle.awk_products.specs.Sources.{AreTuplesOf, AreProducts}
use Rattle.awk_cartesian.specs.declared.rows.Rows.{Rows}
use Rattle.awk_products.specs.declared.sources.Sources.{Sources}
use Rattle.awk_products.specs.declared.tuples.Tuples.{Tuples}
use Rattle.awk_products.proofs.SlotLaws.{lengths-of}
use Rattle.awk_cartesian.proofs.CountLaws.{length-tuples, count-rows}

-- ---- how many rows there are

-- an array is one row
one_row : (n : ℕ) (ds : List Datum) → 0 < length ds
    → AllByRecursion (λ d. length (rows_in Arrays d) ≡ n) ds → 1 ≡ n
one_row n [] p h = absurd (omega (arith, p))
one_row n (d ∷ ds) p h = h.0

rows_count : (n : ℕ) (ds : List Datum) → 0 < length ds
    → AllByRecursion (λ d. length (rows_in ByRows d) ≡ n) ds → row_count (map column_in ds) ≡ n
rows_count n [] p h = absurd (omega (arith, p))
rows_count n (d ∷ ds) p h = h.0

-- ---- the lists of a row

array_lists : (ds : List Datum)
    → map (λ d. list_items (get_or (rows_in Arrays d) 0 null)) ds ≡ map column_in ds
array_lists [] = refl
array_lists (d ∷ ds) =
    ap₂ (λ vs vss. vs ∷ vss) (value_list-from (column_in d)) (array_lists ds)

row_lists : (i : ℕ) (ds : List Datum)
    → map (λ d. list_items (get_or (rows_in ByRows d) i null)) ds
    ≡ map list_items (row_of (map column_in ds) i)
row_lists i [] = refl
row_lists i (d ∷ ds) =
    ap (λ vss. list_items (get_or (column_in d) i null) ∷ vss) (row_lists i ds)

nulls_any : (ds : List Datum)
    → list_any (may_be_null ByRows) ds ≡ list_any has_null_rows (map datum_of ds)
nulls_any [] = refl
nulls_any (d ∷ ds) = ap (λ b. has_null_rows (datum_of d) || b) (nulls_any ds)

rows_by : (ds : List Datum) → map (rows_in ByRows) ds ≡ map column_in ds
rows_by [] = refl
rows_by (d ∷ ds) = ap (λ vss. column_in d ∷ vss) (rows_by ds)

-- ---- the tuples of arrays

module _ (places : Bool) (n : ℕ) (ds : List Datum) (r : Rows) (o : 1 ≡ n)
    (h : AreRows Arrays n ds r) where
  array_count : length (tuples_of places (map column_in ds))
      ≡ before (product_count r.sources.lengths) n
  array_count =
      let z : 0 < n = omega (arith, o) in
      let e : 0 + product_count r.sources.lengths 0 ≡ product_count r.sources.lengths 0 =
      omega arith in
      length-tuples places (map column_in ds)
      ∙ ap (λ vss. place_count (map length vss)) (sym (h.lists 0 z ∙ array_lists ds))
      ∙ ap place_count (lengths-of n r.sources h.sources 0)
      ∙ sym e ∙ ap (before (product_count r.sources.lengths)) o

  array_tuples : (t : Tuples) → AreTuplesOf places n r.sources t
      → array_items t.node ≡ tuples_of places (map column_in ds)
  array_tuples t s =
      let z : 0 < n = omega (arith, o) in
      let e : 0 + product_count r.sources.lengths 0 ≡ product_count r.sources.lengths 0 =
      omega arith in
      let m : len t.node ≡ product_count r.sources.lengths 0 =
      s.size ∙ ap (before (product_count r.sources.lengths)) (sym o) ∙ e in
      array_items-at t.node
      ∙ sym (value_list-run (array_item t.node) 0 (len t.node))
      ∙ ap (λ k. value_list (run (array_item t.node) 0 k)) m
      ∙ s.tuples 0 z ∙ ap (tuples_of places) (h.lists 0 z ∙ array_lists ds)

-- ---- the tuples of rows

module _ (places : Bool) (n : ℕ) (ds : List Datum) (r : Rows)
    (o : row_count (map column_in ds) ≡ n) (h : AreRows ByRows n ds r) where
  abbrev vss : List (List Value)
  vss = map column_in ds

  abbrev count : ℕ → ℕ
  count = product_count r.sources.lengths

  rows_counted : length (joined_items (rows_tuples places vss)) ≡ before count n
  rows_counted =
      count-rows places vss count n o
      (λ i p. ap (λ vs. place_count (map length vs)) (sym (h.lists i p ∙ row_lists i ds))
      ∙ ap place_count (lengths-of n r.sources h.sources i))

  row_present : (i : ℕ) → i < n
      → list_place r.index i ≡ present_place (list_all is_present (row_of vss i)) i
  row_present i p =
      h.present i p
      ∙ ap (λ ws. present_place (list_all is_present (row_of ws i)) i) (rows_by ds)

  module _ (t : Tuples) (s : AreTuplesOf places n r.sources t) where
    abbrev lists : Layout
    lists = offset_lists t.offsets t.node

    list_at : (i : ℕ) → i < n → array_item lists i
        ≡ list (values_from (tuples_of places (map list_items (row_of vss i))))
    list_at i p =
        let at : place_at t.offsets i ≡ before count i =
        ap (λ c. place_at c i) s.offsets ∙ place-offsets count n i (omega (arith, p)) in
        let long : place_at t.offsets (i + 1) - place_at t.offsets i ≡ count i =
        ap (λ c. place_at c (i + 1) - place_at c i) s.offsets ∙ offset-length count n i p in
        item-offset_lists t.offsets t.node i
        ∙ ap₂ (λ a k. list (run (array_item t.node) a k)) at long
        ∙ ap list (sym (values_from-list (run (array_item t.node) (before count i) (count i))))
        ∙ ap (λ vs. list (values_from vs))
        (s.tuples i p ∙ ap (tuples_of places) (h.lists i p ∙ row_lists i ds))

    whole_row : (b : Bool) (vs : List Value) → b ≡ true
        → list (values_from vs) ≡ (if b then list (values_from vs) else null)
    whole_row true vs e = refl
    whole_row false vs e = absurd (cc)

    some_place : (b : Bool) (i : ℕ) → Some i ≡ present_place b i → b ≡ true
    some_place true i e = refl
    some_place false i e = absurd (cc)

    plain_at : r.index ≡ None → (i : ℕ) → i < n
        → array_item lists i ≡ row_tuples places (row_of vss i)
    plain_at e i p =
        list_at i p
        ∙ whole_row (list_all is_present (row_of vss i))
        (tuples_of places (map list_items (row_of vss i)))
        (some_place (list_all is_present (row_of vss i)) i
        (ap (λ x. list_place x i) (sym e) ∙ row_present i p))

    null_or : (b : Bool) (i : ℕ) (vs : List Value) → array_item lists i ≡ list (values_from vs)
        → in_option (simple_value (layout_type lists)) (at_option (present_place b i) (item lists))
        ≡ (if b then list (values_from vs) else null)
    null_or true i vs g =
        in_option-same (simple_value (layout_type lists)) (simple_value-null (layout_type lists))
        (item lists i) ∙ g
    null_or false i vs g = refl

    null_at : (j : Column) → r.index ≡ Some j → (i : ℕ) → i < n
        → array_item (optional j lists) i ≡ row_tuples places (row_of vss i)
    null_at j e i p =
        ap (λ o. in_option (simple_value (layout_type lists)) (at_option o (item lists)))
        (ap (λ x. list_place x i) (sym e) ∙ row_present i p)
        ∙ null_or (list_all is_present (row_of vss i)) i
        (tuples_of places (map list_items (row_of vss i))) (list_at i p)

    by_rows : (z : Layout) → len z ≡ n
        → ((i : ℕ) → i < n → array_item z i ≡ row_tuples places (row_of vss i))
        → array_items z ≡ rows_tuples places vss
    by_rows z m g =
        array_items-at z
        ∙ map-same (array_item z) (λ i. row_tuples places (row_of vss i)) 0 (len z)
        (λ i p q. g i (omega (arith, q, m)))
        ∙ ap (λ k. map (λ i. row_tuples places (row_of vss i)) (range_with_len 0 k)) (m ∙ sym o)

    pub offsets_size : size_of t.offsets ≡ n + 1
    offsets_size = ap size_of s.offsets ∙ size-lane_of I64 (n + 1) (λ i. pos (before count i))

    row_items : (x : Option Column) → r.index ≡ x → IsIndexOf x t.offsets
        → array_items (row_node x t) ≡ rows_tuples places vss
    row_items None e g = by_rows lists (omega (arith, offsets_size)) (plain_at e)
    row_items (Some j) e g =
        by_rows (optional j lists) (omega (arith, offsets_size, g.0)) (null_at j e)

    row_type : (x : Option Column) → array_type (row_node x t)
        ≡ option_if (is_some x) (var (tuple_type places (map array_type r.sources.contents)))
    row_type None = ap var s.typ
    row_type (Some j) = ap (λ u. opt (var u)) s.typ

-- ---- how many there are

pub counted : (axis : Axis) (places : Bool) (n : ℕ) (ds : List Datum) (r : Rows)
    → 0 < length ds → AllByRecursion (λ d. length (rows_in axis d) ≡ n) ds → AreRows axis n ds r
    → tuples_fault axis places (map column_in ds)
    ≡ too_many (before (product_count r.sources.lengths) n)
counted Arrays places n ds r p l h = ap too_many (array_count places n ds r (one_row n ds p l) h)
counted ByRows places n ds r p l h =
    ap too_many (rows_counted places n ds r (rows_count n ds p l) h)

-- ---- the offsets of rows

module _ (places : Bool) (n : ℕ) (x : Sources) (t : Tuples) (s : AreTuplesOf places n x t)
    (f : n < 2 ^ 63) where
  pub offsets_fit : IsOffsets t.offsets (len t.node)
  offsets_fit =
      rw (s.offsets, s.size) (are_offsets (product_count x.lengths) n f).offsets

  pub offsets_few : size_of t.offsets ≤ 2 ^ 63
  offsets_few =
      omega (
        arith,
        ap size_of s.offsets
            ∙ size-lane_of I64 (n + 1) (λ i. pos (before (product_count x.lengths) i)),
        f,
      )

-- ---- the index of rows

below_all : (z : ℤ) (b : Bool) (i n : ℕ) → i < n → option_place z ≡ present_place b i → z <ℤ pos n
below_all (pos m) true i n p e = let f : m ≡ i = cc in omega (arith, ints, p, f)
below_all (pos m) false i n p e = absurd (cc)
below_all (negsuc m) b i n p e = omega (arith, ints)

pub rows_index : (axis : Axis) (places : Bool) (n : ℕ) (ds : List Datum) (r : Rows) (t : Tuples)
    → AreRows axis n ds r → AreTuplesOf places n r.sources t → IsIndexOf r.index t.offsets
rows_index axis places n ds r t h s = go r.index refl h.index
  where
    go : (x : Option Column) → r.index ≡ x → IndexesAll x n → IsIndexOf x t.offsets
    go None e g = tt
    go (Some j) e g = (
      ap size_of s.offsets
          ∙ size-lane_of I64 (n + 1) (λ i. pos (before (product_count r.sources.lengths) i))
          ∙ ap (λ m. m + 1) (sym g.1),
      record {
        kind = g.0;
        below = λ i p.
            below_all (at j i) (list_all is_present (row_of (map (rows_in axis) ds) i)) i
            (size_of j) p (ap (λ x. list_place x i) (sym e) ∙ h.present i (omega (arith, p, g.1)));
      },
    )

-- ---- the whole

typ_is : (axis : Axis) (places : Bool) (ds : List Datum) (ts : List DataType) (u : DataType)
    → option_map (product_type axis places (map datum_of ds)) (item_types axis (map datum_of ds))
    ≡ Some u → item_types axis (map datum_of ds) ≡ Some ts
    → product_type axis places (map datum_of ds) ts ≡ u
typ_is axis places ds ts u e f =
    let g : Some (product_type axis places (map datum_of ds) ts) ≡ Some u =
    sym (ap (option_map (product_type axis places (map datum_of ds))) f) ∙ e in
    cc

pub made_type : (axis : Axis) (places : Bool) (n : ℕ) (ds : List Datum) (u : DataType)
    → option_map (product_type axis places (map datum_of ds)) (item_types axis (map datum_of ds))
    ≡ Some u → (r : Rows) (t : Tuples) → AreRows axis n ds r → AreTuplesOf places n r.sources t
    → 0 < length ds → AllByRecursion (λ d. length (rows_in axis d) ≡ n) ds
    → array_type (product_node axis r.index t) ≡ u
made_type Arrays places n ds u e r t h s p l =
    s.typ ∙ typ_is Arrays places ds (map array_type r.sources.contents) u e h.types
made_type ByRows places n ds u e r t h s p l =
    row_type places n ds r (rows_count n ds p l) h t s r.index
    ∙ ap (λ b. option_if b (var (tuple_type places (map array_type r.sources.contents))))
    (h.optional ∙ nulls_any ds)
    ∙ typ_is ByRows places ds (map array_type r.sources.contents) u e h.types

made_items : (axis : Axis) (places : Bool) (n : ℕ) (ds : List Datum) (r : Rows) (t : Tuples)
    → AreRows axis n ds r → AreTuplesOf places n r.sources t → 0 < length ds
    → AllByRecursion (λ d. length (rows_in axis d) ≡ n) ds
    → array_items (product_node axis r.index t) ≡ product_values axis places (map column_in ds)
made_items Arrays places n ds r t h s p l =
    array_tuples places n ds r (one_row n ds p l) h t s
made_items ByRows places n ds r t h s p l =
    row_items places n ds r (rows_count n ds p l) h t s r.index refl
    (rows_index ByRows places n ds r t h s)

pub made_datum : (axis : Axis) (places : Bool) (n : ℕ) (ds : List Datum) (u : DataType)
    → option_map (product_type axis places (map datum_of ds)) (item_types axis (map datum_of ds))
    ≡ Some u → (r : Rows) (t : Tuples) → AreRows axis n ds r → AreTuplesOf places n r.sources t
    → 0 < length ds → AllByRecursion (λ d. length (rows_in axis d) ≡ n) ds
    → (z : Layout) → z ≡ product_node axis r.index t
    → counted_product axis places u (map column_in ds) ≡ Ok (array_datum z)
made_datum axis places n ds u e r t h s p l z w =
    refused_or-None (tuples_fault axis places (map column_in ds))
    (shown.arr u (product_values axis places (map column_in ds))) (array_datum z)
    (counted axis places n ds r p l h
    ∙ within_limit (before (product_count r.sources.lengths) n) s.few)
    (ap₂ shown.arr
    (sym (ap array_type w ∙ made_type axis places n ds u e r t h s p l))
    (sym (ap array_items w ∙ made_items axis places n ds r t h s p l)))

pub too_many_made : (axis : Axis) (places : Bool) (n : ℕ) (ds : List Datum) (u : DataType)
    (r : Rows) → AreRows axis n ds r → 0 < length ds
    → AllByRecursion (λ d. length (rows_in axis d) ≡ n) ds → AreProducts places n r.sources None
    → counted_product axis places u (map column_in ds) ≡ Err Size
too_many_made axis places n ds u r h p l m =
    ap (λ o. refused_or o (shown.arr u (product_values axis places (map column_in ds))))
    (counted axis places n ds r p l h
    ∙ over_limit (before (product_count r.sources.lengths) n) m)
