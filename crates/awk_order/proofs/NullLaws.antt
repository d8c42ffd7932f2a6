-- Lists whose nulls come last, as a node.
use Rattle.std.specs.Prelude.{◌≡◌, ℕ, zero, suc, ◌+◌, ◌<◌, ◌≤◌, refl, true, false, Bool}
use Rattle.std.specs.Prelude.{List, [], ◌∷◌, ◌++◌, length, map, get_or, replicate, ℤ, pos, negsuc}
use Rattle.std.specs.Prelude.{◌<ℤ◌, nat_lt, if◌then◌else◌, Option}
use Rattle.std.specs.List.{range_with_len, AllByRecursion}
use Rattle.std.proofs.Common.{arith, ap, ap₂, sym, ◌∙◌, true≢false, length-append}
use Rattle.std.proofs.lemmas.Int.{ints}
use Rattle.std.proofs.lemmas.List.{length-map}
use Rattle.std.proofs.lemmas.List.FromFn.{fill_by_all, length-map-range_with_len}
use Rattle.std.proofs.lemmas.List.FromFn.{get_or-map-range_with_len}
use Rattle.std.proofs.lemmas.Simd.{map-map}
use Rattle.awk_base.proofs.Ranges.{map-same, map_from}
use Rattle.awk_base.proofs.Every.{all-at}
use Rattle.awk_types.specs.DataType.{DataType, unknown, leaf, var, reg, rec, tup, opt, uni}
use Rattle.awk_types.specs.Has.{Has}
use Rattle.awk_types.specs.ItemLimit.{item_limit}
use Rattle.awk_types.specs.Parts.{option_number}
use Rattle.awk_types.specs.Predicates.{is_leaf, is_unknown}
use Rattle.awk_types.specs.Simple.{present, is_option}
use Rattle.awk_types.specs.Value.{Value, null}
use Rattle.awk_lanes.specs.Column.{Column}
use Rattle.awk_lanes.specs.Counted.{before}
use Rattle.awk_lanes.specs.Places.{size_of, at, place_at, option_place, IsOptionalIndex}
use Rattle.awk_lanes.proofs.CountedLanes.{length-numbers, numbers-at}
use Rattle.awk_counts.proofs.ListLaws.{numbers-all}
use Rattle.awk_layout.specs.Item.{leaf_value, at_option}
use Rattle.awk_layout.specs.Kinds.{kind_of, primitive_of, primitive_of-kind_of}
use Rattle.awk_layout.specs.Layout.{Layout, flat, optional}
use Rattle.awk_layout.specs.Typing.{array_type, array_items}
use Rattle.awk_layout.specs.Valid.{len}
use Rattle.awk_layout.proofs.ArrayItems.{length-array_items}
use Rattle.awk_layout.proofs.Runs.{value_list-run}
use Rattle.awk_gather.specs.Arrays.{array_item}
use Rattle.awk_numbers.specs.Folds.{lane_numbers}
use Rattle.awk_parts.specs.Parts.{AreRising, part_at}
use Rattle.awk_present.specs.Numbers.{leaf_of}
use Rattle.awk_present.specs.Present.{list_at, ArePresent}
use Rattle.awk_present.specs.declared.present.Present.{Present}
use Rattle.awk_sorting.specs.Lanes.{SortsLane}
use Rattle.awk_sorting.specs.Nulls.{somes, nones}
use Rattle.awk_sorting.specs.Order.{number_first, sort_numbers}
use Rattle.awk_sorting.proofs.InsertLaws.{length-sort}
use Rattle.awk_sorting.proofs.NullLaws.{somes_nones}
use Rattle.awk_order.specs.Lists.{AreItems, AreMade}
use Rattle.awk_order.specs.Nulls.{length_at, place_or_null, nulls_last, AreNullsReady}
use Rattle.awk_order.specs.Order.{items_in_order}
use Rattle.awk_order.proofs.NodeLaws.{list_in_order, part_by_place, list_by_place}
use Rattle.awk_order.proofs.ValueLaws.{leaf_simple_value, somes_numbers}

-- ---- offsets

pub offsets_before : (o : Column) (n m : ℕ) → AreRising o n m → place_at o 0 ≡ 0 → (i : ℕ) → i ≤ n
    → place_at o i ≡ before (length_at o) i
offsets_before o n m r f zero l = f
offsets_before o n m r f (suc i) l =
    let one : i + 1 ≡ suc i = omega arith in
    ap (place_at o) (sym one)
    ∙ omega (arith, offsets_before o n m r f i (omega (arith, l)), r.ordered i (omega (arith, l)))

rising_within : (o : Column) (n m k : ℕ) → AreRising o n m → m ≤ k → AreRising o n k
rising_within o n m k r l = record {
  kind = r.kind;
  size = r.size;
  positive = r.positive;
  ordered = r.ordered;
  within = λ i q. omega (arith, r.within i q, l);
}

pub nulls_ready : (z : Layout) (o : Column) (n : ℕ) (p : Present) → AreItems z o n
    → ArePresent z o n p → AreNullsReady o p.offsets n
nulls_ready z o n p a h = record {
  all = rising_within o n (len z) item_limit a.rising a.few;
  some =
      rising_within p.offsets n (size_of p.lane) item_limit h.rising
      (omega (arith, h.few, length-array_items z, a.few));
  first = a.first;
  fits = a.fits;
}

-- ---- places

below_by : (b : Bool) (c k s m : ℕ) → nat_lt k c ≡ b → (k < c → s + k < m)
    → (if b then pos (s + k) else negsuc 0) <ℤ pos m
below_by true c k s m e f =
    let l : k < c = grind (arith, e) in
    omega (arith, ints, f l)
below_by false c k s m e f = omega (arith, ints)

-- what stands at a place after those that are present
at_by : (b : Bool) (c k s : ℕ) (g : ℕ → Value) (xs : List Value) → nat_lt k c ≡ b
    → (k < c → g (s + k) ≡ get_or xs k null) → (c ≤ k → null ≡ get_or xs k null)
    → at_option (option_place (if b then pos (s + k) else negsuc 0)) g ≡ get_or xs k null
at_by true c k s g xs e f h =
    let l : k < c = grind (arith, e) in
    f l
at_by false c k s g xs e f h =
    let l : c ≤ k = grind (arith, e) in
    h l

get_past : (xs : List Value) (k : ℕ) → length xs ≤ k → null ≡ get_or xs k null
get_past [] k l = refl
get_past (x ∷ xs) zero l = absurd (omega (arith, l))
get_past (x ∷ xs) (suc k) l = get_past xs k (omega (arith, l))

get_null : (m k : ℕ) → get_or (replicate m null) k null ≡ null
get_null zero k = refl
get_null (suc m) zero = refl
get_null (suc m) (suc k) = get_null m k

get_front : (xs : List Value) (m k : ℕ)
    → get_or (xs ++ replicate m null) k null ≡ get_or xs k null
get_front [] m k = get_null m k
get_front (x ∷ xs) m zero = refl
get_front (x ∷ xs) m (suc k) = get_front xs m k

replicate-length : (m : ℕ) → length (replicate m null) ≡ m
replicate-length zero = refl
replicate-length (suc m) = ap suc (replicate-length m)

-- ---- the type

optional_leaf : (t : DataType) → is_option t ≡ true → is_leaf (present t) ≡ true
    → is_unknown (present t) ≡ false → opt (leaf (leaf_of t)) ≡ t
optional_leaf (opt (leaf p)) o l u = refl
optional_leaf (opt unknown) o l u = absurd (true≢false u)
optional_leaf (opt (var t)) o l u = absurd (true≢false (sym l))
optional_leaf (opt (reg n t)) o l u = absurd (true≢false (sym l))
optional_leaf (opt (rec ns ts)) o l u = absurd (true≢false (sym l))
optional_leaf (opt (tup ts)) o l u = absurd (true≢false (sym l))
optional_leaf (opt (opt t)) o l u = absurd (true≢false (sym l))
optional_leaf (opt (uni ts)) o l u = absurd (true≢false (sym l))
optional_leaf unknown o l u = absurd (true≢false (sym o))
optional_leaf (leaf p) o l u = absurd (true≢false (sym o))
optional_leaf (var t) o l u = absurd (true≢false (sym o))
optional_leaf (reg n t) o l u = absurd (true≢false (sym o))
optional_leaf (rec ns ts) o l u = absurd (true≢false (sym o))
optional_leaf (tup ts) o l u = absurd (true≢false (sym o))
optional_leaf (uni ts) o l u = absurd (true≢false (sym o))

-- ---- the node

module _ (z : Layout) (o : Column) (n : ℕ) (a : AreItems z o n)
    (has : AllByRecursion (Has (array_type z)) (array_items z)) (p : Present)
    (h : ArePresent z o n p) (up : Bool) (r : Column) (d : SortsLane up p.offsets n p.lane r) where
  abbrev index : Column
  index = nulls_last o p.offsets n

  abbrev y : Layout
  y = optional index (flat r)

  starts : (i : ℕ) → i ≤ n → place_at o i ≡ before (length_at o) i
  starts i l = offsets_before o n (len z) a.rising a.first i l

  pub index-size : size_of index ≡ len z
  index-size =
      length-numbers (length_at o) (place_or_null p.offsets) n ∙ sym (starts n (omega arith))
      ∙ a.last

  part_end : (i : ℕ) → i < n → place_at p.offsets (i + 1) ≤ size_of r
  part_end i l = omega (arith, h.rising.within (i + 1) (omega (arith, l)), d.size)

  pub index_valid : IsOptionalIndex index (size_of r)
  index_valid = record {
    kind = tt;
    below = λ j l.
        all-at (λ x. x <ℤ pos (size_of r)) index.items j (pos 0)
        (numbers-all (λ x. x <ℤ pos (size_of r)) (length_at o) (place_or_null p.offsets) n
        (λ i k q m.
        below_by (nat_lt k (length_at p.offsets i)) (length_at p.offsets i) k
        (place_at p.offsets i) (size_of r) refl (λ s. omega (arith, s, part_end i q)))) l;
  }

  abbrev leaf_at : ℕ → Value
  leaf_at q = leaf_value r.kind (at r q)

  item_at : (i k : ℕ) → i < n → k < length_at o i
      → array_item y (place_at o i + k)
      ≡ at_option (option_place (place_or_null p.offsets i k)) leaf_at
  item_at i k l m =
      leaf_simple_value (opt (leaf (primitive_of r.kind)))
      (at_option (option_place (at index (place_at o i + k))) leaf_at) refl
      ∙ ap (λ j. at_option (option_place (get_or index.items (j + k) (pos 0))) leaf_at)
      (starts i (omega (arith, l)))
      ∙ ap (λ x. at_option (option_place x) leaf_at)
      (numbers-at (length_at o) (place_or_null p.offsets) i k n l m)

  abbrev sorted : ℕ → List Value
  sorted i = map (leaf_value r.kind) (part_at (lane_numbers r) p.offsets i)

  sorted_by_place : (i : ℕ) → i < n
      → sorted i
      ≡ map leaf_at (range_with_len (place_at p.offsets i) (length_at p.offsets i))
  sorted_by_place i l =
      ap (map (leaf_value r.kind))
      (part_by_place r p.offsets i (h.rising.ordered i l) (part_end i l))
      ∙ map-map (leaf_value r.kind) (at r)
      (range_with_len (place_at p.offsets i) (length_at p.offsets i))

  sorted_at : (i k : ℕ) → i < n → k < length_at p.offsets i
      → leaf_at (place_at p.offsets i + k) ≡ get_or (sorted i) k null
  sorted_at i k l m =
      sym (ap (λ vs. get_or vs k null) (sorted_by_place i l)
      ∙ get_or-map-range_with_len leaf_at (place_at p.offsets i) (length_at p.offsets i) k
      (place_at p.offsets i + k) null m refl)

  sorted-length : (i : ℕ) → i < n → length (sorted i) ≡ length_at p.offsets i
  sorted-length i l =
      ap length (sorted_by_place i l)
      ∙ length-map-range_with_len leaf_at (place_at p.offsets i) (length_at p.offsets i)

  abbrev cells : ℕ → List (Option ℤ)
  cells i = map option_number (list_at (array_items z) o i)

  same_numbers : (i : ℕ) → i < n
      → sort_numbers up (somes (cells i)) ≡ part_at (lane_numbers r) p.offsets i
  same_numbers i l =
      ap (sort_numbers up) (somes_numbers (list_at (array_items z) o i) ∙ sym (h.parts i l))
      ∙ sym (d.parts i l)

  abbrev whole : ℕ → List Value
  whole i = sorted i ++ replicate (nones (cells i)) null

  whole-length : (i : ℕ) → i < n → length (whole i) ≡ length_at o i
  whole-length i l =
      length-append (sorted i) (replicate (nones (cells i)) null)
      ∙ omega (
        arith,
        replicate-length (nones (cells i)),
        somes_nones (cells i),
        length-map (list_at (array_items z) o i) option_number,
        ap length (list_by_place z o n a i l),
        length-map-range_with_len (array_item z) (place_at o i) (length_at o i),
        length-map (part_at (lane_numbers r) p.offsets i) (leaf_value r.kind),
        ap length (same_numbers i l),
        length-sort (number_first up) (somes (cells i)),
      )

  item_is : (i k : ℕ) → i < n → k < length_at o i
      → array_item y (place_at o i + k) ≡ get_or (whole i) k null
  item_is i k l m =
      item_at i k l m
      ∙ at_by (nat_lt k (length_at p.offsets i)) (length_at p.offsets i) k (place_at p.offsets i)
      leaf_at (sorted i) refl (sorted_at i k l)
      (λ q. get_past (sorted i) k (omega (arith, q, sorted-length i l)))
      ∙ sym (get_front (sorted i) (nones (cells i)) k)

  pub optional_made : is_option (array_type z) ≡ true
      → is_unknown (present (array_type z)) ≡ false
      → AreMade (array_type z) (items_in_order up) z o n y
  optional_made opt_type known = record {
    valid = (
      omega (arith, index-size, a.few),
      index_valid,
      omega (arith, d.size, h.few, length-array_items z, a.few),
    );
    size = index-size;
    typ =
        ap (λ k. opt (leaf (primitive_of k))) same_kind
        ∙ ap (λ q. opt (leaf q)) (primitive_of-kind_of (leaf_of (array_type z)))
        ∙ optional_leaf (array_type z) opt_type a.leaves known;
    lists = λ i l.
        value_list-run (array_item y) (place_at o i) (length_at o i)
        ∙ map_from (array_item y) (place_at o i) (length_at o i)
        ∙ map-same (λ k. array_item y (place_at o i + k)) (λ k. get_or (whole i) k null) 0
        (length_at o i) (λ k q m. item_is i k l (omega (arith, m)))
        ∙ sym (fill_by_all (λ k. get_or (whole i) k null) (whole i) (length_at o i) null
        (whole-length i l) (λ k m. refl))
        ∙ ap₂ (λ k zs. map (leaf_value k) zs ++ replicate (nones (cells i)) null) same_kind
        (sym (same_numbers i l))
        ∙ sym (list_in_order z o n a has up i);
  }
    where
      same_kind : r.kind ≡ kind_of (leaf_of (array_type z))
      same_kind = d.kind ∙ h.kind
