-- Tuples whose slots stand beside one another, as the tuples of lists.
use Rattle.std.specs.Prelude.{◌≡◌, refl, ℕ, suc, ◌+◌, ◌<◌, ◌≤◌, Bool, List, [], ◌∷◌, length, map}
use Rattle.std.specs.Prelude.{get_or, None}
use Rattle.std.specs.List.{range_with_len}
use Rattle.std.proofs.Common.{arith, ap, ap₂, sym, ◌∙◌, subst}
use Rattle.std.proofs.lemmas.List.{length-map}
use Rattle.std.proofs.lemmas.List.FromFn.{get_or-map-range_with_len, length-map-range_with_len}
use Rattle.awk_types.specs.DataType.{tup, types_from}
use Rattle.awk_types.specs.ItemLimit.{item_limit}
use Rattle.awk_types.specs.Value.{Value, row, value_list, values_from}
use Rattle.awk_lanes.specs.Column.{Column, no_places}
use Rattle.awk_lanes.specs.Counted.{before, offsets_by}
use Rattle.awk_lanes.specs.Places.{size_of}
use Rattle.awk_lanes.proofs.CountedLanes.{length-numbers}
use Rattle.awk_layout.specs.Item.{run}
use Rattle.awk_layout.specs.Layout.{Layout, empty, rows, layouts_from}
use Rattle.awk_layout.specs.Typing.{array_type}
use Rattle.awk_layout.specs.Valid.{len, AllReach, AllValid}
use Rattle.awk_layout.proofs.Runs.{run-by}
use Rattle.awk_gather.specs.Arrays.{array_item}
use Rattle.awk_open.proofs.OpenedKinds.{item-rows, type-rows}
use Rattle.awk_places.specs.Places.{place_lists}
use Rattle.awk_places.specs.Products.{lengths_at, product_count, product_place, product_lanes}
use Rattle.awk_places.proofs.FlatLaws.{map-in_place}
use Rattle.awk_places.proofs.Levels.{length-place_lists}
use Rattle.awk_places.proofs.PlaceLists.{tuple-at}
use Rattle.awk_combi.specs.Combinations.{slot_type, slot_value}
use Rattle.awk_combi.proofs.TupleLaws.{all_reach, all_valid}
use Rattle.awk_products.specs.Tuples.{tuple_type, slot_values, tuple_of, tuples_of}
use Rattle.awk_products.specs.Slots.{AreSlots}
use Rattle.awk_products.specs.Sources.{AreSources, list_in, lists_in, AreTuplesOf, slot_firsts}
use Rattle.awk_products.specs.declared.sources.Sources.{Sources}
use Rattle.awk_products.specs.declared.tuples.Tuples.{Tuples}
use Rattle.awk_products.proofs.SlotLaws.{lengths-of, lanes-count, lane-at, slot-at}

-- the items of a tuple, by their places
slot_values-by_place : (places : Bool) (vss : List (List Value)) (ks : List ℕ) (g : ℕ → Value)
    (a : ℕ) → length ks ≡ length vss
    → ((j : ℕ) → j < length vss
    → g (a + j) ≡ slot_value places (get_or vss j []) (get_or ks j 0))
    → map g (range_with_len a (length vss)) ≡ slot_values places vss ks
slot_values-by_place places [] [] g a e h = refl
slot_values-by_place places [] (k ∷ ks) g a e h = absurd (omega (arith, e))
slot_values-by_place places (vs ∷ vss) [] g a e h = absurd (omega (arith, e))
slot_values-by_place places (vs ∷ vss) (k ∷ ks) g a e h =
    let z : a ≡ a + 0 = omega arith in
    ap₂ (λ u us. u ∷ us) (ap g z ∙ h 0 (omega arith))
    (slot_values-by_place places vss ks g (a + 1) (omega (arith, e))
    (λ j p. (let s : a + 1 + j ≡ a + suc j = omega arith in ap g s)
    ∙ h (suc j) (omega (arith, p))))

module _ (places : Bool) (n : ℕ) (x : Sources) (h : AreSources n x) (cs : List Column)
    (zs : List Layout) (e : cs ≡ product_lanes n (slot_firsts places n x.firsts) x.lengths)
    (s : AreSlots places x.contents cs (length cs) zs) where
  abbrev count : ℕ → ℕ
  count = product_count x.lengths

  abbrev tuple : ℕ → ℕ → List ℕ
  tuple i k = get_or (place_lists (lengths_at x.lengths i)) k []

  slot-count : length zs ≡ length x.contents
  slot-count = s.count ∙ ap length e ∙ lanes-count n x h places

  list-at : (i j : ℕ) → j < length x.contents → get_or (lists_in x i) j [] ≡ list_in x i j
  list-at i j p =
      get_or-map-range_with_len (list_in x i) 0 (length x.contents) j j [] p (omega arith)

  lists-count : (i : ℕ) → length (lists_in x i) ≡ length x.contents
  lists-count i = length-map-range_with_len (list_in x i) 0 (length x.contents)

  tuple-long : (i k : ℕ) → k < count i → length (tuple i k) ≡ length (lists_in x i)
  tuple-long i k p =
      (tuple-at (lengths_at x.lengths i) k p).long
      ∙ ap length (sym (lengths-of n x h i)) ∙ length-map (lists_in x i) length

  -- the slots of tuple k of list i
  slots-at : (i k : ℕ) → i < n → k < count i
      → map (λ z. array_item z (before count i + k)) zs
      ≡ slot_values places (lists_in x i) (tuple i k)
  slots-at i k p q =
      let g : ℕ → Value = λ j. array_item (get_or zs j empty) (before count i + k) in
      sym (map-in_place empty g (λ z. array_item z (before count i + k)) zs (λ j r. refl))
      ∙ ap (λ m. map g (range_with_len 0 m)) (slot-count ∙ sym (lists-count i))
      ∙ slot_values-by_place places (lists_in x i) (tuple i k) g 0 (tuple-long i k q)
      (λ j r.
      let l : j < length x.contents = omega (arith, r, lists-count i) in
      let z : 0 + j ≡ j = omega arith in
      ap g z ∙ slot-at n x h places cs zs e s j i k l p q
      ∙ ap (λ vs. slot_value places vs (get_or (tuple i k) j 0)) (sym (list-at i j l)))

  tuple-item : (total i k : ℕ) → i < n → k < count i
      → array_item (rows None total (layouts_from zs)) (before count i + k)
      ≡ tuple_of places (lists_in x i) (tuple i k)
  tuple-item total i k p q =
      item-rows None total zs (before count i + k)
      ∙ ap (λ vs. row (values_from vs)) (slots-at i k p q)

  -- the tuples of list i
  pub tuples-at : (total i : ℕ) → i < n
      → value_list (run (array_item (rows None total (layouts_from zs))) (before count i) (count i))
      ≡ tuples_of places (lists_in x i)
  tuples-at total i p =
      let z : Layout = rows None total (layouts_from zs) in
      let ms : List ℕ = lengths_at x.lengths i in
      let f : List ℕ → Value = tuple_of places (lists_in x i) in
      run-by (array_item z) (λ k. f (tuple i k)) (before count i) (count i)
      (λ k q. tuple-item total i k p q)
      ∙ ap (λ m. map (λ k. f (tuple i k)) (range_with_len 0 m)) (sym (length-place_lists ms))
      ∙ map-in_place [] (λ k. f (tuple i k)) f (place_lists ms) (λ k q. refl)
      ∙ ap (λ ms. map f (place_lists ms)) (sym (lengths-of n x h i))

  slot-type : (j : ℕ) → j < length zs
      → array_type (get_or zs j empty) ≡ slot_type places (array_type (get_or x.contents j empty))
  slot-type j p = (s.each j (omega (arith, p, s.count))).typ

  -- their type
  pub tuples-type : (total : ℕ) → array_type (rows None total (layouts_from zs))
      ≡ tuple_type places (map array_type x.contents)
  tuples-type total =
      type-rows None total zs
      ∙ ap (λ ts. tup (types_from ts)) (types zs x.contents slot-count slot-type)
    where
      types : (zs ys : List Layout) → length zs ≡ length ys
          → ((j : ℕ) → j < length zs
          → array_type (get_or zs j empty) ≡ slot_type places (array_type (get_or ys j empty)))
          → map array_type zs ≡ map (slot_type places) (map array_type ys)
      types [] [] e t = refl
      types [] (y ∷ ys) e t = absurd (omega (arith, e))
      types (z ∷ zs) [] e t = absurd (omega (arith, e))
      types (z ∷ zs) (y ∷ ys) e t =
          ap₂ (λ u us. u ∷ us) (t 0 (omega arith))
          (types zs ys (omega (arith, e)) (λ j p. t (suc j) (omega (arith, p))))

  size-slot : (j : ℕ) → j < length zs → len (get_or zs j empty) ≡ before count n
  size-slot j p =
      let l : j < length x.contents = omega (arith, p, slot-count) in
      (s.each j (omega (arith, p, s.count))).size
      ∙ ap size_of (ap (λ cs. get_or cs j no_places) e ∙ lane-at n x h places j l)
      ∙ length-numbers count
      (product_place (get_or (slot_firsts places n x.firsts) j no_places) x.lengths j) n

  slots_reach : AllReach (before count n) (layouts_from zs)
  slots_reach = all_reach (before count n) zs (λ j p. omega (arith, size-slot j p))

  pub reach : (m : ℕ) → m ≡ before count n → AllReach m (layouts_from zs)
  reach m w = subst (λ m. AllReach m (layouts_from zs)) (sym w) slots_reach

  slots_valid : AllValid (layouts_from zs)
  slots_valid = all_valid zs (λ j p. (s.each j (omega (arith, p, s.count))).valid)

  are_tuples : (t : Tuples) → before count n ≤ item_limit → t.offsets ≡ offsets_by count n
      → t.node ≡ rows None (before count n) (layouts_from zs) → AreTuplesOf places n x t
  are_tuples t few o w = record {
    few = few;
    offsets = o;
    valid = rw w (omega (arith, few), tt, slots_reach, slots_valid);
    size = ap len w;
    typ = ap array_type w ∙ tuples-type (before count n);
    tuples = λ i p. ap (λ z. value_list (run (array_item z) (before count i) (count i))) w
        ∙ tuples-at (before count n) i p;
  }

  pub tuples_made : (t : Tuples) (m : ℕ) → m ≡ before count n → before count n ≤ item_limit
      → t.offsets ≡ offsets_by count n → t.node ≡ rows None m (layouts_from zs)
      → AreTuplesOf places n x t
  tuples_made t m e few o w =
      are_tuples t few o (w ∙ ap (λ m. rows None m (layouts_from zs)) e)
