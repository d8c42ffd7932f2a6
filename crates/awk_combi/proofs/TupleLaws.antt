-- The tuples of lists: their types, and the items of each list that is made.
use Rattle.std.specs.Prelude.{◌≡◌, refl, ℕ, suc, ◌+◌, ◌-◌, ◌<◌, ◌≤◌, ◌^◌, Bool, true, false, List}
use Rattle.std.specs.Prelude.{[], ◌∷◌, map, length, get_or, replicate, pos, Some, None, sum}
use Rattle.std.specs.List.{range_with_len, AllByRecursion}
use Rattle.std.proofs.Common.{arith, ap, ap₂, sym, ◌∙◌, subst}
use Rattle.std.proofs.lemmas.List.{length-map}
use Rattle.std.proofs.lemmas.List.FromFn.{get_or-map-range_with_len, length-map-range_with_len}
use Rattle.std.proofs.lemmas.Simd.{map-map}
use Rattle.awk_types.specs.DataType.{DataType, tup, types_from}
use Rattle.awk_types.specs.Has.{Has}
use Rattle.awk_types.specs.ItemLimit.{item_limit}
use Rattle.awk_types.specs.Simple.{simple, simple_value}
use Rattle.awk_types.specs.Value.{Value, int, null, row, value_list, values_from}
use Rattle.awk_types.proofs.SimpleLaws.{simple_twice, simple_is_simple, value_stays}
use Rattle.awk_lanes.specs.Column.{Column, no_places}
use Rattle.awk_lanes.specs.Counted.{before, offsets_by}
use Rattle.awk_lanes.specs.Numbers.{nat_of}
use Rattle.awk_lanes.specs.Places.{size_of, place_at}
use Rattle.awk_lanes.proofs.CountedLanes.{before-next, before_mono, numbers-at, place-offsets}
use Rattle.awk_layout.specs.Item.{run}
use Rattle.awk_layout.specs.Layout.{Layout, empty, rows, layouts_from}
use Rattle.awk_layout.specs.Typing.{layout_type, array_type, array_items}
use Rattle.awk_layout.specs.Valid.{len, IsValid, AllReach, AllValid}
use Rattle.awk_layout.proofs.ArrayItems.{get_or-array_items, length-array_items}
use Rattle.awk_layout.proofs.Runs.{get-run, run-by}
use Rattle.awk_gather.specs.Arrays.{array_item}
use Rattle.awk_open.proofs.OpenedKinds.{item-rows, type-rows}
use Rattle.awk_columns.specs.Lists.{AreLists, items_at, all_items_at, span_length}
use Rattle.awk_columns.specs.ListClass.{Class}
use Rattle.awk_list_functions.specs.Made.{AreGiven}
use Rattle.awk_list_functions.specs.Spoils.{too_many}
use Rattle.awk_list_functions.specs.declared.causes.Spoil.TheVariants.{Size}
use Rattle.awk_places.specs.Places.{rising_places}
use Rattle.awk_places.proofs.FlatLaws.{map-in_place, all-at}
use Rattle.awk_combi.specs.Combinations.{slot_type, slots, tuple_type, slot_value, tuple_at, tuples}
use Rattle.awk_combi.specs.Combinations.{combinations_function}
use Rattle.awk_combi.specs.Slots.{IsSlotLane, AreSlotLanes, ArePlaced, slot_item, IsSlot}
use Rattle.awk_combi.specs.Slots.{AreSlots, AreOfSize, AreTuples}
use Rattle.awk_combi.specs.declared.slots.Placed.{Placed}
use Rattle.awk_combi.specs.Spans.{first_place, tuples_at, count_at, place_in, slot_lane, slot_lanes}
use Rattle.awk_columns.proofs.OffsetLaws.{are_offsets, offset-length, items_at-length, count_given}
use Rattle.awk_list_functions.proofs.SpoilLimits.{over_limit, within_limit}
use Rattle.awk_combi.proofs.SpanLaws.{size-slot, tuple_long, tuple_below, first-full, within}
use Rattle.awk_combi.proofs.SpanLaws.{is_slot_lane}
use Rattle.awk_combi.proofs.TypeLaws.{simple-tuple, value-tuple}

-- ---- the type of a slot

pub slot-simple : (places : Bool) (y : Layout)
    → simple (slot_type places (array_type y)) ≡ slot_type places (array_type y)
slot-simple true y = refl
slot-simple false y = simple_twice (layout_type y)

slot_types : (places : Bool) (y : Layout) (cs : List Column) (zs : List Layout) (n : ℕ)
    → AreSlots places y cs n zs
    → map array_type zs ≡ replicate n (slot_type places (array_type y))
slot_types places y cs zs n h =
    go zs (λ j p. (h.each j (subst (λ k. j < k) h.count p)).typ)
    ∙ ap (λ k. replicate k (slot_type places (array_type y))) h.count
  where
    go : (zs : List Layout)
        → ((j : ℕ) → j < length zs
        → array_type (get_or zs j empty) ≡ slot_type places (array_type y))
        → map array_type zs ≡ replicate (length zs) (slot_type places (array_type y))
    go [] e = refl
    go (z ∷ zs) e =
        ap₂ (λ t ts. t ∷ ts) (e 0 (omega arith)) (go zs (λ j p. e (suc j) (omega (arith, p))))

-- ---- rows of slots

pub all_reach : (n : ℕ) (zs : List Layout)
    → ((j : ℕ) → j < length zs → n ≤ len (get_or zs j empty)) → AllReach n (layouts_from zs)
all_reach n [] h = tt
all_reach n (z ∷ zs) h = (h 0 (omega arith), all_reach n zs (λ j p. h (suc j) (omega (arith, p))))

pub all_valid : (zs : List Layout) → ((j : ℕ) → j < length zs → IsValid (get_or zs j empty))
    → AllValid (layouts_from zs)
all_valid [] h = tt
all_valid (z ∷ zs) h = (h 0 (omega arith), all_valid zs (λ j p. h (suc j) (omega (arith, p))))

-- ---- what stands in the slots of a tuple

module _ (places rep : Bool) (n : ℕ) (s t : Column) (y : Layout) where
  abbrev lanes : List Column
  lanes = slot_lanes places rep n s t

  lane-at : (j : ℕ) → j < n → get_or lanes j no_places ≡ slot_lane places rep n s t j
  lane-at j p =
      get_or-map-range_with_len (slot_lane places rep n s t) 0 n j j no_places p (omega arith)

  abbrev tuple : ℕ → ℕ → List ℕ
  tuple i k = get_or (tuples_at rep n s t i) k []

  place-in : (j i k : ℕ) → i < size_of s → k < count_at rep n s t i
      → place_at (slot_lane places rep n s t j) (before (count_at rep n s t) i + k)
      ≡ first_place places s t i + get_or (tuple i k) j 0
  place-in j i k p q =
      ap nat_of (numbers-at (count_at rep n s t) (place_in places rep n s t j) i k (size_of s) p q)

  tuple_within : (i k : ℕ) → i < size_of s → k < count_at rep n s t i
      → before (count_at rep n s t) i + k < before (count_at rep n s t) (size_of s)
  tuple_within i k p q =
      omega (
        arith,
        before-next (count_at rep n s t) i,
        before_mono (count_at rep n s t) (i + 1) (size_of s) (omega (arith, p)),
        q,
      )

  -- what a place of list i stands for
  shown : (i x : ℕ) → x < span_length s t i
      → slot_item places y (first_place places s t i + x) ≡ slot_value places (items_at s t y i) x
  shown i x p = go places
    where
      go : (b : Bool) → slot_item b y (first_place b s t i + x) ≡ slot_value b (items_at s t y i) x
      go true = let e : 0 + x ≡ x = omega arith in ap (λ k. int (pos k)) e
      go false =
          ap (λ a. array_item y (a + x)) (first-full s t i (omega (arith, p)))
          ∙ sym (get-run (array_item y) (place_at s i) (span_length s t i) x p)

  module _ (zs : List Layout) (h : AreSlots places y lanes n zs) where
    slot-at : (j i k : ℕ) → j < n → i < size_of s → k < count_at rep n s t i
        → array_item (get_or zs j empty) (before (count_at rep n s t) i + k)
        ≡ slot_value places (items_at s t y i) (get_or (tuple i k) j 0)
    slot-at j i k r p q =
        let c : Column = slot_lane places rep n s t j in
        let z : IsSlot places y c (get_or zs j empty) =
        subst (λ d. IsSlot places y d (get_or zs j empty)) (lane-at j r) (h.each j r) in
        z.items (before (count_at rep n s t) i + k)
        (omega (arith, size-slot places rep n s t j, tuple_within i k p q))
        ∙ ap (slot_item places y) (place-in j i k p q)
        ∙ shown i (get_or (tuple i k) j 0) (tuple_below rep n (span_length s t i) k j q r)

    -- the slots of tuple k of list i
    slots-at : (i k : ℕ) → i < size_of s → k < count_at rep n s t i
        → map (λ z. array_item z (before (count_at rep n s t) i + k)) zs
        ≡ map (slot_value places (items_at s t y i)) (tuple i k)
    slots-at i k p q =
        let g : ℕ → Value = λ j. slot_value places (items_at s t y i) (get_or (tuple i k) j 0) in
        sym (map-in_place empty g
        (λ z. array_item z (before (count_at rep n s t) i + k)) zs
        (λ j r. sym (slot-at j i k (subst (λ m. j < m) h.count r) p q)))
        ∙ ap (λ m. map g (range_with_len 0 m))
        (h.count ∙ sym (tuple_long rep n (span_length s t i) k q))
        ∙ map-in_place 0 g (slot_value places (items_at s t y i)) (tuple i k) (λ j r. refl)

    abbrev made : ℕ → Layout
    made total = rows None total (layouts_from zs)

    tuple-item : (total i k : ℕ) → i < size_of s → k < count_at rep n s t i
        → array_item (made total) (before (count_at rep n s t) i + k)
        ≡ tuple_at places (items_at s t y i) (tuple i k)
    tuple-item total i k p q =
        item-rows None total zs (before (count_at rep n s t) i + k)
        ∙ ap (λ vs. row (values_from vs)) (slots-at i k p q)

    tuple-type : (total : ℕ)
        → array_type (made total) ≡ tup (types_from (replicate n (slot_type places (array_type y))))
    tuple-type total =
        type-rows None total zs ∙ ap (λ ts. tup (types_from ts)) (slot_types places y lanes zs n h)

-- ---- values stay

item_stays : (y : Layout) → AllByRecursion (Has (array_type y)) (array_items y) → (k : ℕ)
    → k < len y → simple_value (array_type y) (array_item y k) ≡ array_item y k
item_stays y h k p =
    value_stays (array_type y) (array_item y k) (simple_is_simple (layout_type y))
    (subst (Has (array_type y)) (get_or-array_items y k p)
    (all-at (Has (array_type y)) null (array_items y) k
    (omega (arith, p, length-array_items y)) h))

module _ (places rep : Bool) (most : ℕ) (class : Class) (s t : Column) (y : Layout)
    (a : AreLists class s t y) (has : AllByRecursion (Has (array_type y)) (array_items y)) where
  abbrev slot : DataType
  slot = slot_type places (array_type y)

  abbrev n : ℕ
  n = slots most slot

  abbrev count : ℕ → ℕ
  count = count_at rep n s t

  abbrev total : ℕ
  total = before count (size_of s)

  slot_stays : (i x : ℕ) → i < size_of s → x < span_length s t i
      → simple_value slot (slot_value places (items_at s t y i) x)
      ≡ slot_value places (items_at s t y i) x
  slot_stays i x p q = go places
    where
      go : (b : Bool)
          → simple_value (slot_type b (array_type y)) (slot_value b (items_at s t y i) x)
          ≡ slot_value b (items_at s t y i) x
      go true = refl
      go false =
          let e : slot_value false (items_at s t y i) x ≡ array_item y (place_at s i + x) =
          get-run (array_item y) (place_at s i) (span_length s t i) x q in
          let b = within s t (len y) i a.spans p (omega (arith, q)) in
          ap (simple_value (array_type y)) e
          ∙ item_stays y has (place_at s i + x) (omega (arith, b, q))
          ∙ sym e

  tuple_stays : (i k : ℕ) → i < size_of s → k < count i
      → simple_value (tuple_type places most (array_type y))
      (tuple_at places (items_at s t y i) (get_or (tuples_at rep n s t i) k []))
      ≡ tuple_at places (items_at s t y i) (get_or (tuples_at rep n s t i) k [])
  tuple_stays i k p q =
      let ks : List ℕ = get_or (tuples_at rep n s t i) k [] in
      value-tuple n slot (map (slot_value places (items_at s t y i)) ks)
      (length-map ks (slot_value places (items_at s t y i))
      ∙ tuple_long rep n (span_length s t i) k q)
      (stay ks (λ j r. tuple_below rep n (span_length s t i) k j q
      (omega (arith, r, tuple_long rep n (span_length s t i) k q))))
    where
      stay : (ks : List ℕ) → ((j : ℕ) → j < length ks → get_or ks j 0 < span_length s t i)
          → AllByRecursion (λ v. simple_value slot v ≡ v)
          (map (slot_value places (items_at s t y i)) ks)
      stay [] h = tt
      stay (x ∷ ks) h =
          (slot_stays i x p (h 0 (omega arith)), stay ks (λ j r. h (suc j) (omega (arith, r))))

  list-made : (zs : List Layout) → AreSlots places y (slot_lanes places rep n s t) n zs
      → (sum : ℕ) (i : ℕ) → i < size_of s
      → value_list (run (array_item (rows None sum (layouts_from zs)))
      (place_at (offsets_by count (size_of s)) i)
      (place_at (offsets_by count (size_of s)) (i + 1)
      - place_at (offsets_by count (size_of s)) i))
      ≡ map (simple_value (tuple_type places most (array_type y)))
      (tuples rep places most (array_type y) (items_at s t y i))
  list-made zs h sum i p =
      let z : Layout = rows None sum (layouts_from zs) in
      let o : Column = offsets_by count (size_of s) in
      let vs : List Value = items_at s t y i in
      let f : List ℕ → Value =
      λ ks. simple_value (tuple_type places most (array_type y)) (tuple_at places vs ks) in
      let ts : List (List ℕ) = tuples_at rep n s t i in
      ap (λ k. value_list (run (array_item z) (place_at o i) k))
      (offset-length count (size_of s) i p)
      ∙ ap (λ k. value_list (run (array_item z) k (count i)))
      (place-offsets count (size_of s) i (omega (arith, p)))
      ∙ run-by (array_item z) (λ k. f (get_or ts k [])) (before count i) (count i)
      (λ k q. tuple-item places rep n s t y zs h sum i k p q ∙ sym (tuple_stays i k p q))
      ∙ map-in_place [] (λ k. f (get_or ts k [])) f ts (λ k q. refl)
      ∙ sym (map-map (simple_value (tuple_type places most (array_type y))) (tuple_at places vs) ts)
      ∙ ap (λ d. map (simple_value (tuple_type places most (array_type y)))
      (map (tuple_at places vs) (rising_places rep n d))) (sym (items_at-length s t y i))

  -- what is made of a column of lists
  pub given : (zs : List Layout) → AreSlots places y (slot_lanes places rep n s t) n zs
      → total ≤ item_limit → IsValid (rows None total (layouts_from zs))
      → AreGiven None (tuple_type places most (array_type y))
      (tuples rep places most (array_type y)) s t y (offsets_by count (size_of s))
      (rows None total (layouts_from zs))
  given zs h few valid = record {
    valid = valid;
    offsets = are_offsets count (size_of s) a.fits;
    even = tt;
    typ = tuple-type places rep n s t y zs h total
        ∙ sym (simple-tuple n slot (slot-simple places y));
    lists = list-made zs h total;
  }

  all_given : sum (map (λ (l : List Value). length (tuples rep places most (array_type y) l))
      (all_items_at s t y)) ≡ total
  all_given =
      count_given (tuples rep places most (array_type y)) s t y count
      (λ i. length-map (rising_places rep n (length (items_at s t y i)))
      (tuple_at places (items_at s t y i))
      ∙ ap (λ d. length (rising_places rep n d)) (items_at-length s t y i))

  pub spoilt : item_limit < total
      → (combinations_function most rep places).spoil (array_type y) (all_items_at s t y)
      ≡ Some Size
  spoilt p = ap too_many all_given ∙ over_limit total p

  pub fine : total ≤ item_limit
      → (combinations_function most rep places).spoil (array_type y) (all_items_at s t y) ≡ None
  fine p = ap too_many all_given ∙ within_limit total p

-- ---- the node of tuples

pub reach_slots : (places : Bool) (y : Layout) (total : ℕ) (cs : List Column) (zs : List Layout)
    → AreOfSize total cs → AreSlots places y cs (length cs) zs
    → AllReach total (layouts_from zs)
reach_slots places y total cs zs sizes h =
    all_reach total zs
    (λ j p.
    let q : j < length cs = subst (λ k. j < k) h.count p in
    omega (arith, (h.each j q).size, sizes j q))

pub are_tuples : (places : Bool) (y : Layout) (total : ℕ) (cs : List Column) (zs : List Layout)
    (z : Layout) → total < 2 ^ 63 → AreOfSize total cs → AreSlots places y cs (length cs) zs
    → z ≡ rows None total (layouts_from zs) → AreTuples places y total cs z
are_tuples places y total cs zs z few sizes h e = record {
  nodes = zs;
  slots = h;
  rows = e;
  valid = rw e (
    few,
    tt,
    reach_slots places y total cs zs sizes h,
    all_valid zs (λ j p. (h.each j (subst (λ k. j < k) h.count p)).valid),
  );
}

-- ---- the lanes of the slots

module _ (places rep : Bool) (n : ℕ) (class : Class) (s t : Column) (y : Layout)
    (a : AreLists class s t y) where
  slots_there : (j : ℕ) → j < length (slot_lanes places rep n s t) → j < n
  slots_there j p =
      omega (arith, p, length-map-range_with_len (slot_lane places rep n s t) 0 n)

  pub lanes_ready : before (count_at rep n s t) (size_of s) ≤ item_limit
      → AreSlotLanes places (len y) (slot_lanes places rep n s t)
  lanes_ready few j p =
      let q : j < n = slots_there j p in
      subst (IsSlotLane places (len y)) (sym (lane-at places rep n s t y j q))
      (is_slot_lane places rep n class s t y a few j q)

  pub lanes_sized : AreOfSize (before (count_at rep n s t) (size_of s))
      (slot_lanes places rep n s t)
  lanes_sized j p =
      ap size_of (lane-at places rep n s t y j (slots_there j p))
      ∙ size-slot places rep n s t j

-- ---- what is made, from lanes of places

module _ (places rep : Bool) (most : ℕ) (class : Class) (s t : Column) (y : Layout)
    (a : AreLists class s t y) (has : AllByRecursion (Has (array_type y)) (array_items y)) where
  abbrev asked : ℕ
  asked = slots most (slot_type places (array_type y))

  pub placed_lanes : (k : ℕ) (p : Placed) → ArePlaced places rep k s t (Some p)
      → AreSlotLanes places (len y) p.lanes
  placed_lanes k p h =
      subst (AreSlotLanes places (len y)) (sym h.3)
      (lanes_ready places rep k class s t y a (omega (arith, h.0, h.1)))

  pub placed_sized : (k : ℕ) (p : Placed) → ArePlaced places rep k s t (Some p)
      → AreOfSize p.total p.lanes
  placed_sized k p h =
      subst (AreOfSize p.total) (sym h.3)
      (subst (λ m. AreOfSize m (slot_lanes places rep k s t)) (sym h.0)
      (lanes_sized places rep k class s t y a))

  pub placed_none : (k : ℕ) → k ≡ asked → ArePlaced places rep k s t None
      → (combinations_function most rep places).spoil (array_type y) (all_items_at s t y)
      ≡ Some Size
  placed_none k e h =
      spoilt places rep most class s t y a has
      (subst (λ m. item_limit < before (count_at rep m s t) (size_of s)) e h)

  pub placed_given : (k : ℕ) → k ≡ asked → (p : Placed) → ArePlaced places rep k s t (Some p)
      → (z : Layout) → AreTuples places y p.total p.lanes z
      → ((combinations_function most rep places).spoil (array_type y) (all_items_at s t y) ≡ None)
      × AreGiven None (tuple_type places most (array_type y))
      (tuples rep places most (array_type y)) s t y p.offsets z
  placed_given k e p h z d =
      let q : ArePlaced places rep asked s t (Some p) =
      subst (λ m. ArePlaced places rep m s t (Some p)) e h in
      let total : ℕ = before (count_at rep asked s t) (size_of s) in
      let few : total ≤ item_limit = omega (arith, q.0, q.1) in
      let zs : List Layout = d.nodes in
      let lanes : List Column = slot_lanes places rep asked s t in
      let many : length lanes ≡ asked =
      length-map-range_with_len (slot_lane places rep asked s t) 0 asked in
      let ready : AreSlots places y lanes asked zs =
      subst (λ m. AreSlots places y lanes m zs) many
      (subst (λ cs. AreSlots places y cs (length cs) zs) q.3 d.slots) in
      let whole : z ≡ rows None total (layouts_from zs) =
      d.rows ∙ ap (λ m. rows None m (layouts_from zs)) q.0 in
      let made = given places rep most class s t y a has zs ready few
      (subst IsValid whole d.valid) in (
        fine places rep most class s t y a has few,
        subst (λ o. AreGiven None (tuple_type places most (array_type y))
            (tuples rep places most (array_type y)) s t y o z) (sym q.2)
            (subst (λ w. AreGiven None (tuple_type places most (array_type y))
            (tuples rep places most (array_type y)) s t y
            (offsets_by (count_at rep asked s t) (size_of s)) w) (sym whole) made),
      )
