-- Numbers of 64 bits that a mask or an index picks, without a lane of their places.
use Rattle.std.specs.Prelude.{◌≡◌, refl, ℕ, ◌<◌, ◌≤◌, ◌^◌, true, false, List, length, map, ℤ, pos}
use Rattle.std.specs.Prelude.{Option, Some, None}
use Rattle.std.specs.List.{range_with_len, AllByRecursion}
use Rattle.std.proofs.Common.{arith, ap, sym, ◌∙◌, subst}
use Rattle.std.proofs.lemmas.List.{ext_get_or, get_or-map, length-map}
use Rattle.std.proofs.lemmas.List.FromFn.{length-map-range_with_len, get_or-map-range_with_len}
use Rattle.std.proofs.lemmas.Simd.{map-map}
use Rattle.awk_base.proofs.Each.{each_of}
use Rattle.awk_base.proofs.Ranges.{map-same}
use Rattle.awk_types.specs.Has.{Has}
use Rattle.awk_types.specs.ItemLimit.{item_limit}
use Rattle.awk_types.specs.Predicates.{is_leaf}
use Rattle.awk_types.specs.Simple.{present, is_option}
use Rattle.awk_lanes.specs.declared.kind.Kind.TheVariants.{I64}
use Rattle.awk_lanes.specs.Column.{Column}
use Rattle.awk_lanes.specs.Counted.{before, offsets_by}
use Rattle.awk_lanes.specs.Numbers.{nat_of}
use Rattle.awk_lanes.specs.Places.{size_of, at, place_at, AreSpans, IsIndex}
use Rattle.awk_lanes.proofs.CountedLanes.{before-same}
use Rattle.awk_layout.specs.Layout.{flat}
use Rattle.awk_layout.specs.Typing.{array_type, array_items}
use Rattle.awk_layout.specs.Valid.{len}
use Rattle.awk_gather_lanes.specs.Lanes.{picked}
use Rattle.awk_gather_lanes.proofs.PickedLanes.{size-picked}
use Rattle.awk_counts.proofs.ListLaws.{offsets-same}
use Rattle.awk_gather.specs.Arrays.{IsGathered}
use Rattle.awk_gather.proofs.GatheredArrays.{gathered}
use Rattle.awk_gather.proofs.PickedNodes.{flat_picked}
use Rattle.awk_columns.specs.Lists.{Listed, length_of}
use Rattle.awk_select.specs.Cells.{place_number}
use Rattle.awk_select.specs.Picks.{is_mask}
use Rattle.awk_select.proofs.PickedPlaces.{IsThere}
use Rattle.awk_jagged_places.specs.Beside.{places_beside}
use Rattle.awk_jagged_places.specs.Leaves.{mask_numbers, AreTested, take_in, take_at, take_numbers}
use Rattle.awk_jagged_places.specs.Leaves.{number_or, number_taken, numbers_taken}
use Rattle.awk_jagged_places.proofs.FlatLists.{length-each, each_same}
use Rattle.awk_jagged_rows.specs.Rows.{AreAlike}
use Rattle.awk_jagged.specs.Outcomes.{IsOutcomeOf}
use Rattle.awk_jagged.specs.PickedAt.{ArePicked, AreWithin}
use Rattle.awk_jagged.specs.declared.leaves.Outcome.TheVariants as outcome
use Rattle.awk_jagged.specs.declared.leaves.Places.{Places}
use Rattle.awk_jagged.proofs.LeafLaws.{map_each, mask-within, take-within, take-there, takes-many}
use Rattle.awk_jagged.proofs.LeafLaws.{takes-total}
use Rattle.awk_jagged.proofs.PickLaws.{ByNumbers, by-masks, by-takes, leaf-outcome}

module _ (c : Column) (zs : List ℤ) where
  abbrev places : Column
  places = record { kind = I64; items = zs }

  -- the numbers at all places
  numbers-at : map (λ i. at c (place_at places i)) (range_with_len 0 (length zs))
      ≡ map (λ z. at c (nat_of z)) zs
  numbers-at =
      ext_get_or (pos 0) _ _
      (length-map-range_with_len (λ i. at c (place_at places i)) 0 (length zs)
      ∙ sym (length-map zs (λ z. at c (nat_of z))))
      (λ i p.
      let q : i < length zs = omega (
        arith,
        p,
        length-map-range_with_len (λ i. at c (place_at places i)) 0 (length zs),
      ) in
      get_or-map-range_with_len (λ i. at c (place_at places i)) 0 (length zs) i i (pos 0) q
      (omega arith)
      ∙ sym (get_or-map (λ z. at c (nat_of z)) zs i (pos 0) (pos 0) q))

  lane-picked : (r : Column) → c.kind ≡ I64
      → r ≡ record { kind = I64; items = map (λ z. at c (nat_of z)) zs } → r ≡ picked c places
  lane-picked r k e =
      e ∙ ap (λ us. record { kind = I64; items = us }) (sym numbers-at)
      ∙ ap (λ kind. record {
        kind = kind;
        items = map (λ i. at c (place_at places i)) (range_with_len 0 (length zs));
      }) (sym k)

-- ---- numbers that are picked by any places

module _ (xs ws : Listed) (numbers : ℕ → List ℤ) (b : ByNumbers xs ws numbers) where
  -- more than a column may have
  any-many : item_limit < before (λ i. length (numbers i)) (size_of ws.starts)
      → IsOutcomeOf xs ws outcome.TooMany
  any-many h = leaf-outcome xs ws numbers b None outcome.TooMany h tt

  abbrev lane : Column
  lane = record { kind = I64; items = each_of numbers (size_of ws.starts) }

  module _ (c o r : Column) (e : xs.content ≡ flat c)
      (few : before (λ i. length (numbers i)) (size_of ws.starts) ≤ item_limit)
      (picks : r ≡ picked c lane) where
    any-few : size_of r < 2 ^ 63
    any-few =
        let s : size_of r ≡ before (λ i. length (numbers i)) (size_of ws.starts) =
        ap size_of picks ∙ size-picked c lane ∙ length-each numbers (size_of ws.starts) in
        omega (arith, s, few)

    any-outcome : is_option (array_type ws.content) ≡ false → IsIndex lane (size_of c)
        → o ≡ offsets_by (λ i. length (numbers i)) (size_of ws.starts)
        → IsOutcomeOf xs ws (outcome.Lists o (flat r))
    any-outcome present index offsets =
        let p : Places = record { offsets = o; lane = lane } in
        let g : IsGathered (flat c) lane (flat r) =
        subst (λ d. IsGathered (flat c) lane (flat d)) (sym picks)
        (gathered (flat c) (flat (picked c lane)) lane refl index (flat_picked c lane)) in
        let there : ArePicked false (flat c) lane (flat r) =
        record { valid = any-few; typ = g.typ; items = g.items } in
        leaf-outcome xs ws numbers b (Some p) (outcome.Lists o (flat r))
        (record { few = few; offsets = offsets; lane = refl }) (
          refl,
          subst (λ b. ArePicked b xs.content lane (flat r)) (sym present)
              (subst (λ y. ArePicked false y lane (flat r)) (sym e) there),
        )

-- ---- numbers beside the true items of a mask

module _ (xs ws : Listed) (pairs : size_of xs.starts ≡ size_of ws.starts) (alike : AreAlike xs ws)
    (sx : AreSpans xs.starts xs.stops (len xs.content))
    (l : is_leaf (present (array_type ws.content)) ≡ true)
    (m : is_mask (array_type ws.content) ≡ true) where
  masked : ByNumbers xs ws (mask_numbers xs ws)
  masked = by-masks xs ws pairs alike sx l m

  pub numbers-many : item_limit < before (λ i. length (mask_numbers xs ws i)) (size_of ws.starts)
      → IsOutcomeOf xs ws outcome.TooMany
  numbers-many h = any-many xs ws (mask_numbers xs ws) masked h

  -- each is a place of the content
  pub numbers-index : (c : Column) → xs.content ≡ flat c
      → AreSpans ws.starts ws.stops (len ws.content) → is_option (array_type ws.content) ≡ false
      → AllByRecursion (Has (array_type ws.content)) (array_items ws.content)
      → IsIndex (places_beside xs ws (size_of ws.starts)) (size_of c)
  numbers-index c e sw b has =
      let p : Column = places_beside xs ws (size_of ws.starts) in
      let within : AreWithin (is_option (array_type ws.content)) (len xs.content) p =
      mask-within xs ws p pairs alike sx sw l m has refl in
      subst (λ y. IsIndex p (len y)) e (within.present b)

  module _ (c o r : Column) (e : xs.content ≡ flat c)
      (few : before (λ i. length (mask_numbers xs ws i)) (size_of ws.starts) ≤ item_limit)
      (moved : r ≡ picked c (places_beside xs ws (size_of ws.starts))) where
    pub numbers-few : size_of r < 2 ^ 63
    numbers-few = any-few xs ws (mask_numbers xs ws) masked c o r e few moved

    pub numbers-outcome : IsIndex (places_beside xs ws (size_of ws.starts)) (size_of c)
        → is_option (array_type ws.content) ≡ false
        → o ≡ offsets_by (λ i. length (mask_numbers xs ws i)) (size_of ws.starts)
        → IsOutcomeOf xs ws (outcome.Lists o (flat r))
    numbers-outcome index b offsets =
        any-outcome xs ws (mask_numbers xs ws) masked c o r e few moved b index offsets

-- ---- numbers that an index takes

some_number : (c : Column) (m : ℕ) (p : Option ℕ) → IsThere m p
    → number_or c p ≡ at c (nat_of (place_number p))
some_number c m None h = absurd h
some_number c m (Some k) h = refl

module _ (xs ws : Listed) (pairs : size_of xs.starts ≡ size_of ws.starts)
    (sx : AreSpans xs.starts xs.stops (len xs.content))
    (l : is_leaf (present (array_type ws.content)) ≡ true)
    (m : is_mask (array_type ws.content) ≡ false) (inside : AreTested xs ws false) where
  taken : ByNumbers xs ws (take_numbers xs ws)
  taken = by-takes xs ws pairs sx l m inside

  pub takes-too_many : item_limit < before (length_of ws) (size_of ws.starts)
      → IsOutcomeOf xs ws outcome.TooMany
  takes-too_many h =
      any-many xs ws (take_numbers xs ws) taken (takes-many xs ws (size_of ws.starts) h)

  module _ (c o r : Column) (e : xs.content ≡ flat c) (k : c.kind ≡ I64)
      (few : before (length_of ws) (size_of ws.starts) ≤ item_limit)
      (sw : AreSpans ws.starts ws.stops (len ws.content))
      (b : is_option (array_type ws.content) ≡ false)
      (has : AllByRecursion (Has (array_type ws.content)) (array_items ws.content))
      (made : r
      ≡ record { kind = I64; items = each_of (numbers_taken xs ws c) (size_of ws.starts) }) where
    -- each item of list i names a place
    list : (i : ℕ) → i < size_of ws.starts
        → numbers_taken xs ws c i ≡ map (λ z. at c (nat_of z)) (take_numbers xs ws i)
    list i q =
        map-same (number_taken xs ws c i) (λ j. at c (nat_of (take_at xs ws i j))) 0
        (length_of ws i)
        (λ j g h. some_number c (len xs.content) (take_in xs ws i j)
        (take-there xs ws pairs sx sw l m b has (λ a d u v. inside a u d v) i j q
        (omega (arith, h))))
        ∙ sym (map-map (λ z. at c (nat_of z)) (take_at xs ws i) (range_with_len 0 (length_of ws i)))

    whole : r ≡ record {
      kind = I64;
      items = map (λ z. at c (nat_of z)) (each_of (take_numbers xs ws) (size_of ws.starts));
    }
    whole =
        made ∙ ap (λ us. record { kind = I64; items = us })
        (each_same (numbers_taken xs ws c) (λ i. map (λ z. at c (nat_of z)) (take_numbers xs ws i))
        (size_of ws.starts) list
        ∙ sym (map_each (λ z. at c (nat_of z)) (take_numbers xs ws) (size_of ws.starts)))

    moved : r ≡ picked c (record {
      kind = I64;
      items = each_of (take_numbers xs ws) (size_of ws.starts);
    })
    moved = lane-picked c (each_of (take_numbers xs ws) (size_of ws.starts)) r k whole

    fewer : before (λ i. length (take_numbers xs ws i)) (size_of ws.starts) ≤ item_limit
    fewer = omega (arith, few, takes-total xs ws (size_of ws.starts))

    pub taken-few : size_of r < 2 ^ 63
    taken-few = any-few xs ws (take_numbers xs ws) taken c o r e fewer moved

    pub taken-outcome : o ≡ offsets_by (length_of ws) (size_of ws.starts)
        → IsOutcomeOf xs ws (outcome.Lists o (flat r))
    taken-outcome offsets =
        let p : Column =
        record { kind = I64; items = each_of (take_numbers xs ws) (size_of ws.starts) } in
        let within : AreWithin (is_option (array_type ws.content)) (len xs.content) p =
        take-within xs ws p pairs sx sw l m has (λ a d u v. inside a u d v) refl in
        any-outcome xs ws (take_numbers xs ws) taken c o r e fewer moved b
        (subst (λ y. IsIndex p (len y)) e (within.present b))
        (offsets ∙ offsets-same (length_of ws) (λ i. length (take_numbers xs ws i))
        (size_of ws.starts)
        (λ i q. sym (length-map-range_with_len (take_at xs ws i) 0 (length_of ws i))))

-- as many numbers as items of the index
pub taken-total : (xs ws : Listed) (c : Column) (n total : ℕ) → total ≡ before (length_of ws) n
    → total ≡ before (λ i. length (numbers_taken xs ws c i)) n
taken-total xs ws c n total e =
    e ∙ before-same (length_of ws) (λ i. length (numbers_taken xs ws c i)) n
    (λ i q. sym (length-map-range_with_len (number_taken xs ws c i) 0 (length_of ws i)))
