-- Numbers of the items that are present, list by list.
use Rattle.std.proofs.Common.{◌≡◌, ℕ, zero, suc, ◌+◌, ◌≤◌, ◌<◌, List, [], ◌∷◌, ◌++◌, length, take}
use Rattle.std.proofs.Common.{map, get_or, refl, ap, ap₂, sym, ◌∙◌, subst, arith}
use Rattle.std.specs.Prelude.{ℤ, pos, negsuc, ◌<ℤ◌, true, cond, ◌&&◌, position, Option, Some, None}
use Rattle.std.specs.List.{slice_range, range_with_len, flat_map}
use Rattle.std.specs.Option.{option_map}
use Rattle.std.specs.Ordering.{int_eq}
use Rattle.std.proofs.lemmas.Int.{ints}
use Rattle.std.proofs.lemmas.List.{length-map, take_all}
use Rattle.std.proofs.lemmas.List.Edits.{length-between}
use Rattle.std.proofs.lemmas.List.FromFn.{length-map-range_with_len, get_or-map-range_with_len}
use Rattle.std.proofs.lemmas.List.Sums.{length-filter, count_by-le-length}
use Rattle.awk_base.proofs.Lists.{position-cons}
use Rattle.awk_types.specs.Parts.{number_of}
use Rattle.awk_types.specs.Predicates.{is_leaf}
use Rattle.awk_types.specs.Value.{Value, null}
use Rattle.awk_lanes.specs.Column.{Column}
use Rattle.awk_lanes.specs.Counted.{before, offsets_by}
use Rattle.awk_lanes.specs.Numbers.{element}
use Rattle.awk_lanes.specs.Places.{size_of, at, place_at, option_place, option_place_at}
use Rattle.awk_lanes.specs.Places.{IsOptionalIndex}
use Rattle.awk_lanes.specs.declared.kind.Kind.TheVariants.{I64}
use Rattle.awk_lanes.proofs.CountedLanes.{place-offsets}
use Rattle.awk_lanes.proofs.MadeLanes.{at-lane_of, size-lane_of}
use Rattle.awk_layout.specs.Item.{leaf_value, at_option}
use Rattle.awk_layout.specs.Kinds.{kind_of}
use Rattle.awk_layout.specs.Layout.{Layout}
use Rattle.awk_layout.specs.Typing.{array_type, array_items}
use Rattle.awk_layout.specs.Valid.{len}
use Rattle.awk_gather.specs.Arrays.{array_item}
use Rattle.awk_open.specs.Opened.{IsOpened}
use Rattle.awk_open.specs.declared.opening.Opened.TheVariants as opened
use Rattle.awk_columns.specs.Columns.{is_present, present_values}
use Rattle.awk_counts.specs.Counted.{first_of, present_place, present_at}
use Rattle.awk_columns.proofs.ArrayLaws.{array_items-at}
use Rattle.awk_base.proofs.Ranges.{map-in}
use Rattle.awk_lanes.proofs.PlaceLaws.{element-element}
use Rattle.awk_numbers.specs.Folds.{lane_numbers}
use Rattle.awk_numbers.specs.Places.{is_place}
use Rattle.awk_numbers.proofs.PartLaws.{slice_range-map}
use Rattle.awk_parts.specs.Parts.{AreRising, part_at}
use Rattle.awk_present.specs.Numbers.{leaf_of, numbers, number_place}
use Rattle.awk_present.specs.Present.{AreLeaves, list_at, present_in, present_before, taken_lane}
use Rattle.awk_present.specs.Present.{ArePresent}
use Rattle.awk_present.proofs.FlagLaws.{IsFlagged, part_flagged, count_flagged, length_flagged}
use Rattle.awk_present.proofs.FlagLaws.{leads_to}
use Rattle.awk_present.proofs.LeafLaws.{present-leaf_value, number_of-leaf_value, leaf_of-opt}
use Rattle.awk_present.proofs.SliceLaws.{slice-filter, kept-more, kept-few, map-places}

-- ---- leaves

module _ (c : Column) where
  abbrev leaf_at : ℕ → Value
  leaf_at i = leaf_value c.kind (at c i)

  all_present : (is : List ℕ) → present_values (map leaf_at is) ≡ map leaf_at is
  all_present [] = refl
  all_present (i ∷ is) =
      ap (λ b. cond b (leaf_at i ∷ present_values (map leaf_at is))
      (present_values (map leaf_at is))) (present-leaf_value c.kind (at c i))
      ∙ ap (λ vs. leaf_at i ∷ vs) (all_present is)

  leaf_numbers : (is : List ℕ) → map number_of (map leaf_at is) ≡ map (at c) is
  leaf_numbers [] = refl
  leaf_numbers (i ∷ is) =
      ap₂ (λ z zs. z ∷ zs) (number_of-leaf_value c.kind (get_or c.items i (pos 0)))
      (leaf_numbers is)

  lane_numbers-at : lane_numbers c ≡ map (at c) (range_with_len 0 (size_of c))
  lane_numbers-at = map-places (element c.kind) c.items (pos 0)

  place_leaves : (z : ℤ) (is : List ℕ)
      → number_place (map leaf_at is) z ≡ position (int_eq z) (map (at c) is)
  place_leaves z [] = refl
  place_leaves z (i ∷ is) =
      position-cons (λ v. is_present v && int_eq z (number_of v)) (leaf_at i) (map leaf_at is)
      ∙ ap₂ (λ b o. cond b (Some 0) (option_map suc o))
      (ap₂ (λ b y. b && int_eq z y) (present-leaf_value c.kind (at c i))
      (number_of-leaf_value c.kind (get_or c.items i (pos 0))))
      (place_leaves z is)
      ∙ sym (position-cons (int_eq z) (at c i) (map (at c) is))

  module _ (x : Layout) (h : AreLeaves x c) where
    pub leaves-count : length (array_items x) ≡ size_of c
    leaves-count = ap length h.items ∙ length-map-range_with_len leaf_at 0 (size_of c)

    all_numbers : map number_of (array_items x) ≡ lane_numbers c
    all_numbers = ap (map number_of) h.items ∙ leaf_numbers (range_with_len 0 (size_of c))
        ∙ sym lane_numbers-at

    -- ---- items none of which is null

    module _ (o : Column) (n : ℕ) (r : AreRising o n (length (array_items x))) where
      abbrev places_of : ℕ → List ℕ
      places_of i = slice_range (range_with_len 0 (size_of c)) (place_at o i) (place_at o (i + 1))

      list_leaves : (i : ℕ) → list_at (array_items x) o i ≡ map leaf_at (places_of i)
      list_leaves i =
          ap (λ vs. list_at vs o i) h.items
          ∙ slice_range-map leaf_at (range_with_len 0 (size_of c)) (place_at o i)
          (place_at o (i + 1))

      part_leaves : (i : ℕ) → part_at (lane_numbers c) o i ≡ map (at c) (places_of i)
      part_leaves i =
          ap (λ zs. part_at zs o i) lane_numbers-at
          ∙ slice_range-map (at c) (range_with_len 0 (size_of c)) (place_at o i)
          (place_at o (i + 1))

      pub plain_present : ArePresent x o n (record { lane = c; offsets = o; index = None })
      plain_present = record {
        kind = h.kind;
        rising = subst (AreRising o n) leaves-count r;
        few = omega (arith, leaves-count);
        parts = λ i l.
            part_leaves i
            ∙ sym (ap numbers (list_leaves i) ∙ ap (map number_of) (all_present (places_of i))
            ∙ leaf_numbers (places_of i));
        index = tt;
        places = λ i q z l e.
            ap (λ vs. number_place vs z) (list_leaves i) ∙ place_leaves z (places_of i)
            ∙ sym (ap (position (int_eq z)) (part_leaves i)) ∙ e;
      }

-- ---- offsets of those that are present

-- they are no more than there are items
pub counts_small : (js : List ℤ) (o : Column) (n i : ℕ) → AreRising o n (length js) → i ≤ n
    → before (present_in js o) i ≤ place_at o i
counts_small js o n zero r l = omega arith
counts_small js o n (suc i) r l =
    let one : i + 1 ≡ suc i = omega arith in
    let up = r.ordered i (omega (arith, l)) in
    let here = counts_small js o n i r (omega (arith, l)) in
    let part = part_at js o i in
    let few : present_in js o i ≤ length part = count_by-le-length is_place part in
    let long = length-between js (place_at o i) (place_at o (i + 1))
    (r.within (i + 1) (omega (arith, l))) in
    subst (λ k. before (present_in js o) i + present_in js o i ≤ place_at o k) one
    (omega (arith, up, here, few, long))

counts_before : (js : List ℤ) (vs : List Value) (o : Column) (n i : ℕ) → IsFlagged js vs
    → AreRising o n (length vs) → place_at o 0 ≡ 0 → i ≤ n
    → before (present_in js o) i ≡ present_before vs o i
counts_before js vs o n zero h r f l = sym (ap (λ k. length (present_values (take k vs))) f)
counts_before js vs o n (suc i) h r f l =
    let one : i + 1 ≡ suc i = omega arith in
    let m = present_in js o in
    let part = part_flagged js vs (place_at o i) (place_at o (i + 1)) h in
    subst (λ k. before m i + m i ≡ present_before vs o k) one
    (ap₂ (λ a b. a + b) (counts_before js vs o n i h r f (omega (arith, l)))
    (count_flagged (part_at js o i) (list_at vs o i) part)
    ∙ sym (kept-more is_present vs (place_at o i) (place_at o (i + 1))
    (r.ordered i (omega (arith, l)))))

-- ---- items some of which may be null

module _ (j c : Column) where
  -- the item of an option whose content is a lane
  abbrev there : ℕ → Value
  there i = at_option (option_place_at j i) (leaf_at c)

  flag : (z : ℤ) → is_place z ≡ is_present (at_option (option_place z) (leaf_at c))
  flag (pos k) =
      let yes : is_place (pos k) ≡ true = grind (arith, ints) in
      yes ∙ sym (present-leaf_value c.kind (at c k))
  flag (negsuc k) = refl

  flags : (is : List ℕ) → IsFlagged (map (at j) is) (map there is)
  flags [] = refl
  flags (i ∷ is) = ap₂ (λ b bs. b ∷ bs) (flag (at j i)) (flags is)

  numbers_first : (o : Option ℕ) (vs : List Value) (ks : List ℕ) → numbers vs ≡ map (at c) ks
      → numbers (at_option o (leaf_at c) ∷ vs) ≡ map (at c) (present_place o ++ ks)
  numbers_first None vs ks h = h
  numbers_first (Some k) vs ks h =
      ap (λ b. map number_of (cond b (leaf_at c k ∷ present_values vs) (present_values vs)))
      (present-leaf_value c.kind (at c k))
      ∙ ap₂ (λ z zs. z ∷ zs) (number_of-leaf_value c.kind (get_or c.items k (pos 0))) h

  numbers_there : (is : List ℕ) → numbers (map there is) ≡ map (at c) (flat_map (present_at j) is)
  numbers_there [] = refl
  numbers_there (i ∷ is) =
      numbers_first (option_place_at j i) (map there is) (flat_map (present_at j) is)
      (numbers_there is)

  twice : (ks : List ℕ) → map (element c.kind) (map (at c) ks) ≡ map (at c) ks
  twice [] = refl
  twice (k ∷ ks) =
      ap₂ (λ z zs. z ∷ zs) (element-element c.kind (get_or c.items k (pos 0))) (twice ks)

  abbrev places : List ℕ
  places = first_of (present_at j) (size_of j)

  -- ---- of an array that is such an option

  module _ (x y : Layout) (opens : IsOpened x (opened.Option j y)) (h : AreLeaves y c) where
    abbrev vs : List Value
    vs = array_items x

    abbrev js : List ℤ
    js = lane_numbers j

    content-count : len y ≡ size_of c
    content-count =
        sym (length-map-range_with_len (array_item y) 0 (len y))
        ∙ sym (ap length (array_items-at y))
        ∙ leaves-count c y h

    pub index_into : IsOptionalIndex j (size_of c)
    index_into = subst (IsOptionalIndex j) content-count opens.valid.1

    content_at : (k : ℕ) → k < len y → array_item y k ≡ leaf_at c k
    content_at k l =
        sym (get_or-map-range_with_len (array_item y) 0 (len y) k k null l (omega arith))
        ∙ ap (λ ws. get_or ws k null) (sym (array_items-at y) ∙ h.items)
        ∙ get_or-map-range_with_len (leaf_at c) 0 (size_of c) k k null
        (omega (arith, l, content-count)) (omega arith)

    item_by : (z : ℤ) → z <ℤ pos (len y)
        → at_option (option_place z) (array_item y) ≡ at_option (option_place z) (leaf_at c)
    item_by (pos k) l = content_at k (omega (arith, ints, l))
    item_by (negsuc k) l = refl

    item_there : (i : ℕ) → i < len x → array_item x i ≡ there i
    item_there i l =
        opens.items i l ∙ item_by (at j i) (opens.valid.1.below i (omega (arith, l, opens.size)))

    values : vs ≡ map there (range_with_len 0 (size_of j))
    values =
        array_items-at x
        ∙ map-in (array_item x) there 0 (len x) (λ i l. item_there i (omega (arith, l)))
        ∙ ap (λ m. map there (range_with_len 0 m)) (sym opens.size)

    flagged : IsFlagged js vs
    flagged =
        ap (map is_place) (lane_numbers-at j) ∙ flags (range_with_len 0 (size_of j))
        ∙ sym (ap (map is_present) values)

    pub index-count : length js ≡ length vs
    index-count = length_flagged js vs flagged

    numbers_at : numbers vs ≡ map (at c) places
    numbers_at = ap numbers values ∙ numbers_there (range_with_len 0 (size_of j))

    numbers_all : lane_numbers (taken_lane c places) ≡ numbers vs
    numbers_all = twice places ∙ sym numbers_at

    places-count : length places ≡ length (present_values vs)
    places-count =
        sym (length-map places (at c)) ∙ sym (ap length numbers_at)
        ∙ length-map (present_values vs) number_of

    count : size_of (taken_lane c places) ≡ length (present_values vs)
    count = length-map places (at c) ∙ places-count

    module _ (o : Column) (n : ℕ) (r : AreRising o n (length vs)) (first : place_at o 0 ≡ 0) where
      abbrev m : ℕ → ℕ
      m = present_in js o

      pub total : place_at o n ≡ length vs → before m n ≡ length places
      total last =
          counts_before js vs o n n flagged r first (omega arith)
          ∙ ap (λ k. length (present_values (take k vs))) last
          ∙ ap (λ ws. length (present_values ws)) (take_all (length vs) vs (omega arith))
          ∙ sym places-count

      start : (i : ℕ) → i ≤ n → place_at (offsets_by m n) i ≡ present_before vs o i
      start i l = place-offsets m n i l ∙ counts_before js vs o n i flagged r first l

      numbers_part : (i : ℕ) → i < n
          → part_at (lane_numbers (taken_lane c places)) (offsets_by m n) i
          ≡ numbers (list_at vs o i)
      numbers_part i l =
          ap₂ (slice_range (lane_numbers (taken_lane c places))) (start i (omega (arith, l)))
          (start (i + 1) (omega (arith, l)))
          ∙ ap (λ zs. slice_range zs (present_before vs o i) (present_before vs o (i + 1)))
          numbers_all
          ∙ slice_range-map number_of (present_values vs) (present_before vs o i)
          (present_before vs o (i + 1))
          ∙ ap (map number_of) (sym (slice-filter is_present vs (place_at o i) (place_at o (i + 1))
          (r.ordered i l)))

      rises : AreRising (offsets_by m n) n (size_of (taken_lane c places))
      rises = record {
        kind = tt;
        size = size-lane_of I64 (n + 1) (λ i. pos (before m i));
        positive = λ i l.
            rw (at-lane_of I64 (n + 1) (λ i. pos (before m i)) i (omega (arith, l)))
            (omega (arith, ints));
        ordered = λ i l.
            omega (
              arith,
              start i (omega (arith, l)),
              start (i + 1) (omega (arith, l)),
              kept-more is_present vs (place_at o i) (place_at o (i + 1)) (r.ordered i l),
            );
        within = λ i l. omega (arith, start i l, kept-few is_present vs (place_at o i), count);
      }

      option_present : is_leaf (array_type y) ≡ true
          → ArePresent x o n
          (record { lane = taken_lane c places; offsets = offsets_by m n; index = Some j })
      option_present leaves = record {
        kind =
            h.kind
            ∙ ap kind_of (sym (ap leaf_of opens.kind ∙ leaf_of-opt (array_type y) leaves));
        rising = rises;
        few = omega (arith, count, length-filter is_present vs, count_by-le-length is_present vs);
        parts = numbers_part;
        index = sym (length-map j.items (element j.kind)) ∙ index-count;
        places = λ i q z l e.
            leads_to (part_at js o i) (list_at vs o i) z q
            (part_flagged js vs (place_at o i) (place_at o (i + 1)) flagged)
            (sym (ap (position (int_eq z)) (numbers_part i l)) ∙ e);
      }

      pub options_are : (l q : Column) → l ≡ taken_lane c places → q ≡ offsets_by m n
          → is_leaf (array_type y) ≡ true
          → ArePresent x o n (record { lane = l; offsets = q; index = Some j })
      options_are l q e f leaves = rw (e, f) (option_present leaves)
