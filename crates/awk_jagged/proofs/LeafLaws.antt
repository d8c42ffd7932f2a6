-- The innermost picks: the places in a content, and the items there.
use Rattle.std.specs.Prelude.{◌≡◌, ℕ, zero, suc, ◌+◌, ◌<◌, ◌≤◌, refl, Bool, true, false, ◌||◌, List}
use Rattle.std.specs.Prelude.{[], ◌∷◌, ◌++◌, length, map, get_or, ℤ, Option, Some, None, option_map}
use Rattle.std.specs.List.{range_with_len, flat_map, list_any, AllByRecursion}
use Rattle.std.proofs.Common.{arith, ap, ap₂, sym, ◌∙◌, subst}
use Rattle.std.proofs.lemmas.List.{map-append}
use Rattle.std.proofs.lemmas.List.FromFn.{length-map-range_with_len, get_or-map-range_with_len}
use Rattle.std.proofs.Math.Bool.{or-true}
use Rattle.std.proofs.lemmas.Simd.{map-map}
use Rattle.awk_base.proofs.Ranges.{map-same}
use Rattle.awk_base.proofs.Every.{all-each as all-range, all-map, all-at}
use Rattle.awk_types.specs.DataType.{DataType, leaf}
use Rattle.awk_types.specs.Has.{Has}
use Rattle.awk_types.specs.ItemLimit.{item_limit}
use Rattle.awk_types.specs.Simple.{present, is_option}
use Rattle.awk_types.specs.Value.{Value, int, truth, null, list, row, alt}
use Rattle.awk_types.specs.declared.primitive.Primitive.TheVariants.{Bool as Truths}
use Rattle.awk_lanes.specs.Column.{Column}
use Rattle.awk_lanes.specs.Counted.{before, offsets_by}
use Rattle.awk_lanes.specs.Places.{size_of, place_at, option_place, AreSpans}
use Rattle.awk_lanes.specs.declared.kind.Kind.TheVariants as kinds
use Rattle.awk_layout.proofs.ArrayItems.{get_or-array_items, length-array_items}
use Rattle.awk_layout.specs.Item.{at_option}
use Rattle.awk_layout.specs.Typing.{array_type, array_items}
use Rattle.awk_layout.specs.Valid.{len}
use Rattle.awk_gather.specs.Arrays.{pick}
use Rattle.awk_columns.specs.Lists.{Listed, length_of}
use Rattle.awk_base.proofs.Each.{each_of, each_of-more}
use Rattle.awk_select.proofs.PickedPlaces.{IsThere, optional-lane, index-lane, take_place-below}
use Rattle.awk_select.proofs.PickedPlaces.{take_places-there, mask_place-below, mask_place-there}
use Rattle.awk_select.specs.Cells.{IsBelow, place_number, places_lane}
use Rattle.awk_types.specs.Predicates.{is_leaf}
use Rattle.awk_lanes.proofs.CountedLanes.{before-same}
use Rattle.awk_counts.proofs.ListLaws.{offsets-same}
use Rattle.awk_select.specs.Picks.{picked, is_mask, mask_place, mask_places, take_place}
use Rattle.awk_select.specs.Picks.{take_places, is_outside}
use Rattle.awk_jagged_places.specs.Leaves.{take_in, take_at, take_numbers, is_outside_at, mask_at}
use Rattle.awk_jagged_places.specs.Leaves.{mask_numbers, AreTested}
use Rattle.awk_jagged.specs.PickedAt.{ArePlaces, ArePlacesOr, AreWithin, AreWithinOr}
use Rattle.awk_jagged.specs.declared.leaves.Places.{Places}
use Rattle.awk_jagged_rows.specs.Levels.{row_at}
use Rattle.awk_jagged_rows.specs.Rows.{lists_by, place_by, AreAlike}
use Rattle.awk_jagged_places.proofs.FlatLists.{each_same}
use Rattle.awk_jagged.proofs.LeafTypes.{mask-leaf, plain-leaf, leaf-index}
use Rattle.awk_jagged_rows.proofs.SpanLaws.{item_in, list-items, length-list}

-- ---- lists

pub map_each : {X Y : Type 0} (p : X → Y) (f : ℕ → List X) (n : ℕ)
    → map p (each_of f n) ≡ each_of (λ i. map p (f i)) n
map_each p f zero = refl
map_each {X} {Y} p f (suc n) =
    let e : suc n ≡ n + 1 = omega arith in
    ap (λ j. map p (each_of f j)) e
    ∙ ap (map p) (each_of-more f n)
    ∙ map-append p (each_of f n) (f n)
    ∙ ap (λ (ys : List Y). ys ++ map p (f n)) (map_each p f n)
    ∙ sym (each_of-more (λ i. map p (f i)) n)
    ∙ ap (each_of (λ i. map p (f i))) (sym e)

all-each : {X : Type 0} (P : X → Type 0) (f : ℕ → List X) (n : ℕ)
    → ((i : ℕ) → i < n → AllByRecursion P (f i)) → AllByRecursion P (each_of f n)
all-each P f n h = all-range P f 0 n (λ i l. h i (omega (arith, l)))

-- ---- items at places

-- the item at a place of a lane, and null at a negative one
abbrev pub at_number : List Value → ℤ → Value
at_number vs z = at_option (option_place z) (λ k. get_or vs k null)

-- the item at a place, and null at none
abbrev pub at_place : List Value → Option ℕ → Value
at_place vs o = at_option o (λ k. get_or vs k null)

pub pick_in : (l : Listed) (i k : ℕ) → AreSpans l.starts l.stops (len l.content)
    → i < size_of l.starts → k < length_of l i
    → get_or (array_items l.content) (place_by l i k) null ≡ get_or (lists_by l i) k null
pick_in l i k s p q =
    get_or-array_items l.content (place_by l i k) (item_in l i k s p q).1
    ∙ sym (ap (λ vs. get_or vs k null) (list-items l i)
    ∙ get_or-map-range_with_len (row_at l i) 0 (length_of l i) k k null q (omega arith))

-- ---- places of an index

moved_place : (vs ws : List Value) (a n : ℕ) (o : Option ℕ)
    → ((k : ℕ) → k < n → get_or ws (a + k) null ≡ get_or vs k null) → IsBelow n o
    → at_number ws (place_number (option_map (λ p. a + p) o)) ≡ at_place vs o
moved_place vs ws a n None e b = refl
moved_place vs ws a n (Some k) e b = e k b

pub take-picks : (xs ws : Listed) (i : ℕ) → AreSpans xs.starts xs.stops (len xs.content)
    → i < size_of xs.starts
    → pick (array_items xs.content) (take_numbers xs ws i)
    ≡ picked (lists_by xs i) (take_places (length (lists_by xs i)) (lists_by ws i))
take-picks xs ws i s p =
    map-map (at_number (array_items xs.content)) (λ k. place_number (take_in xs ws i k))
    (range_with_len 0 (length_of ws i))
    ∙ map-same _ _ 0 (length_of ws i)
    (λ k l q. moved_place (lists_by xs i) (array_items xs.content) (place_at xs.starts i)
    (length_of xs i) (take_place (length_of xs i) (row_at ws i k))
    (λ j r. pick_in xs i j s p r) (take_place-below (length_of xs i) (row_at ws i k)))
    ∙ sym (ap (λ n. picked (lists_by xs i) (take_places n (lists_by ws i))) (length-list xs i)
    ∙ ap (λ us. picked (lists_by xs i) (take_places (length_of xs i) us)) (list-items ws i)
    ∙ ap (map (at_place (lists_by xs i)))
    (map-map (take_place (length_of xs i)) (row_at ws i) (range_with_len 0 (length_of ws i)))
    ∙ map-map (at_place (lists_by xs i)) (λ k. take_place (length_of xs i) (row_at ws i k))
    (range_with_len 0 (length_of ws i)))

-- ---- places of a mask

masked_place : (vs ws : List Value) (a k : ℕ) (w : Value)
    → get_or ws a null ≡ get_or vs k null
    → map (at_number ws) (map place_number (mask_place a w)) ≡ map (at_place vs) (mask_place k w)
masked_place vs ws a k (truth true) e = ap (λ v. v ∷ []) e
masked_place vs ws a k (truth false) e = refl
masked_place vs ws a k null e = refl
masked_place vs ws a k (int z) e = refl
masked_place vs ws a k (list us) e = refl
masked_place vs ws a k (row us) e = refl
masked_place vs ws a k (alt j v) e = refl

pub mask-picks : (xs ws : Listed) (i : ℕ) → AreSpans xs.starts xs.stops (len xs.content)
    → i < size_of xs.starts → length_of xs i ≡ length_of ws i
    → pick (array_items xs.content) (mask_numbers xs ws i)
    ≡ picked (lists_by xs i) (mask_places (lists_by ws i))
mask-picks xs ws i s p e =
    map_each (at_number (array_items xs.content)) (mask_at xs ws i) (length_of ws i)
    ∙ each_same _ _ (length_of ws i) (λ k q.
    masked_place (lists_by xs i) (array_items xs.content) (place_by xs i k) k (row_at ws i k)
    (pick_in xs i k s p (omega (arith, q, e)))
    ∙ ap (λ w. map (at_place (lists_by xs i)) (mask_place k w)) (sym (item k q)))
    ∙ sym (map_each (at_place (lists_by xs i)) (λ k. mask_place k (get_or (lists_by ws i) k null))
    (length_of ws i))
    ∙ ap (λ n. map (at_place (lists_by xs i))
    (each_of (λ k. mask_place k (get_or (lists_by ws i) k null)) n)) (sym (length-list ws i))
  where
    item : (k : ℕ) → k < length_of ws i → get_or (lists_by ws i) k null ≡ row_at ws i k
    item k q = ap (λ vs. get_or vs k null) (list-items ws i)
        ∙ get_or-map-range_with_len (row_at ws i) 0 (length_of ws i) k k null q (omega arith)

-- ---- these are places of the content

-- the item of an index has the type of its items
item_has : (ws : Listed) (P : Value → Type 0) (i k : ℕ)
    → AreSpans ws.starts ws.stops (len ws.content) → i < size_of ws.starts → k < length_of ws i
    → AllByRecursion P (array_items ws.content) → P (row_at ws i k)
item_has ws P i k s p q h =
    let w : place_by ws i k < len ws.content = (item_in ws i k s p q).1 in
    subst P (get_or-array_items ws.content (place_by ws i k) w)
    (all-at P (array_items ws.content) (place_by ws i k) null h
    (omega (arith, w, length-array_items ws.content)))

moved_below : (a n m : ℕ) (o : Option ℕ) → ((k : ℕ) → k < n → a + k < m) → IsBelow n o
    → IsBelow m (option_map (λ p. a + p) o)
moved_below a n m None f b = tt
moved_below a n m (Some k) f b = f k b

moved_there : (a n m : ℕ) (o : Option ℕ) → ((k : ℕ) → k < n → a + k < m) → IsThere n o
    → IsThere m (option_map (λ p. a + p) o)
moved_there a n m None f b = b
moved_there a n m (Some k) f b = f k b

or_none : (b : Bool) → b ≡ false → (b || false) ≡ false
or_none true e = e
or_none false e = refl

take_one : (n : ℕ) (u : DataType) (w : Value) → is_leaf (present u) ≡ true → is_mask u ≡ false
    → is_option u ≡ false → Has u w → is_outside n w ≡ false → IsThere n (take_place n w)
take_one n u w l m o h e =
    (take_places-there n u (w ∷ []) (leaf-index u (plain-leaf u l o) m) o (h, tt)
    (or_none (is_outside n w) e)).0

-- a lane of places, list by list
lane_of_places : (os : ℕ → List (Option ℕ)) (n : ℕ) (p : Column)
    → p ≡ record { kind = kinds.I64; items = each_of (λ i. map place_number (os i)) n }
    → p ≡ places_lane (each_of os n)
lane_of_places os n p e =
    e ∙ ap (λ zs. record { kind = kinds.I64; items = zs }) (sym (map_each place_number os n))

within : (b : Bool) (m n : ℕ) (os : ℕ → List (Option ℕ)) (p : Column)
    → p ≡ record { kind = kinds.I64; items = each_of (λ i. map place_number (os i)) n }
    → ((i : ℕ) → i < n → AllByRecursion (IsBelow m) (os i))
    → (b ≡ false → (i : ℕ) → i < n → AllByRecursion (IsThere m) (os i))
    → AreWithin b m p
within b m n os p e f g = record {
  kind = ap (λ (c : Column). c.kind) e;
  places = optional-lane m (each_of os n) p (lane_of_places os n p e)
      (all-each (IsBelow m) os n f);
  present = λ q. index-lane m (each_of os n) p (lane_of_places os n p e)
      (all-each (IsThere m) os n (g q));
}

-- the numbers of a list as places
abbrev take_list : Listed → Listed → ℕ → List (Option ℕ)
take_list xs ws i = map (take_in xs ws i) (range_with_len 0 (length_of ws i))

-- an item of an index without nulls names a place of the content
pub take-there : (xs ws : Listed) → size_of xs.starts ≡ size_of ws.starts
    → AreSpans xs.starts xs.stops (len xs.content)
    → AreSpans ws.starts ws.stops (len ws.content)
    → is_leaf (present (array_type ws.content)) ≡ true
    → is_mask (array_type ws.content) ≡ false → is_option (array_type ws.content) ≡ false
    → AllByRecursion (Has (array_type ws.content)) (array_items ws.content)
    → ((i k : ℕ) → i < size_of ws.starts → k < length_of ws i → is_outside_at xs ws i k ≡ false)
    → (i k : ℕ) → i < size_of ws.starts → k < length_of ws i
    → IsThere (len xs.content) (take_in xs ws i k)
take-there xs ws pairs sx sw l m o has inside i k q r =
    moved_there (place_at xs.starts i) (length_of xs i) (len xs.content)
    (take_place (length_of xs i) (row_at ws i k))
    (λ j t. (item_in xs i j sx (omega (arith, q, pairs)) t).1)
    (take_one (length_of xs i) (array_type ws.content) (row_at ws i k) l m o
    (item_has ws (Has (array_type ws.content)) i k sw q r has) (inside i k q r))

pub take-within : (xs ws : Listed) (p : Column) → size_of xs.starts ≡ size_of ws.starts
    → AreSpans xs.starts xs.stops (len xs.content)
    → AreSpans ws.starts ws.stops (len ws.content)
    → is_leaf (present (array_type ws.content)) ≡ true
    → is_mask (array_type ws.content) ≡ false
    → AllByRecursion (Has (array_type ws.content)) (array_items ws.content)
    → ((i k : ℕ) → i < size_of ws.starts → k < length_of ws i → is_outside_at xs ws i k ≡ false)
    → p ≡ record { kind = kinds.I64; items = each_of (take_numbers xs ws) (size_of ws.starts) }
    → AreWithin (is_option (array_type ws.content)) (len xs.content) p
take-within xs ws p pairs sx sw l m has inside e =
    within (is_option (array_type ws.content)) (len xs.content) (size_of ws.starts)
    (take_list xs ws) p
    (e ∙ ap (λ zs. record { kind = kinds.I64; items = zs }) (each_same _ _ (size_of ws.starts)
    (λ i q. sym (map-map place_number (take_in xs ws i) (range_with_len 0 (length_of ws i))))))
    (λ i q. all-map (IsBelow (len xs.content)) (take_in xs ws i) 0 (length_of ws i)
    (λ k r. moved_below (place_at xs.starts i) (length_of xs i) (len xs.content)
    (take_place (length_of xs i) (row_at ws i k))
    (λ j t. (item_in xs i j sx (omega (arith, q, pairs)) t).1)
    (take_place-below (length_of xs i) (row_at ws i k))))
    (λ o i q. all-map (IsThere (len xs.content)) (take_in xs ws i) 0 (length_of ws i)
    (λ k r. take-there xs ws pairs sx sw l m o has inside i k q (omega (arith, r))))

abbrev mask_list : Listed → Listed → ℕ → List (Option ℕ)
mask_list xs ws i =
    flat_map (λ k. mask_place (place_by xs i k) (row_at ws i k)) (range_with_len 0 (length_of ws i))

pub mask-within : (xs ws : Listed) (p : Column) → size_of xs.starts ≡ size_of ws.starts
    → AreAlike xs ws → AreSpans xs.starts xs.stops (len xs.content)
    → AreSpans ws.starts ws.stops (len ws.content)
    → is_leaf (present (array_type ws.content)) ≡ true
    → is_mask (array_type ws.content) ≡ true
    → AllByRecursion (Has (array_type ws.content)) (array_items ws.content)
    → p ≡ record { kind = kinds.I64; items = each_of (mask_numbers xs ws) (size_of ws.starts) }
    → AreWithin (is_option (array_type ws.content)) (len xs.content) p
mask-within xs ws p pairs alike sx sw l m has e =
    within (is_option (array_type ws.content)) (len xs.content) (size_of ws.starts)
    (mask_list xs ws) p
    (e ∙ ap (λ zs. record { kind = kinds.I64; items = zs }) (each_same _ _ (size_of ws.starts)
    (λ i q. sym (map_each place_number (λ k. mask_place (place_by xs i k) (row_at ws i k))
    (length_of ws i)))))
    (λ i q. all-range (IsBelow (len xs.content))
    (λ k. mask_place (place_by xs i k) (row_at ws i k)) 0 (length_of ws i)
    (λ k r. mask_place-below (len xs.content) (place_by xs i k) (row_at ws i k) (at i k q r)))
    (λ o i q. all-range (IsThere (len xs.content))
    (λ k. mask_place (place_by xs i k) (row_at ws i k)) 0 (length_of ws i)
    (λ k r.
    let t : array_type ws.content ≡ leaf Truths =
    mask-leaf (array_type ws.content) (plain-leaf (array_type ws.content) l o) m in
    mask_place-there (len xs.content) (place_by xs i k) (row_at ws i k)
    (subst (λ u. Has u (row_at ws i k)) t
    (item_has ws (Has (array_type ws.content)) i k sw q (omega (arith, r)) has)) (at i k q r)))
  where
    at : (i k : ℕ) → i < size_of ws.starts → k < 0 + length_of ws i
        → place_by xs i k < len xs.content
    at i k q r = (item_in xs i k sx (omega (arith, q, pairs)) (omega (arith, r, alike i q))).1

-- ---- what is told

any_outside : (n : ℕ) (g : ℕ → Value) (a m : ℕ)
    → ((k : ℕ) → k < a + m → is_outside n (g k) ≡ false)
    → list_any (is_outside n) (map g (range_with_len a m)) ≡ false
any_outside n g a zero f = refl
any_outside n g a (suc m) f = ap₂ (λ b c. b || c) (f a (omega arith))
    (any_outside n g (a + 1) m (λ k l. f k (omega (arith, l))))

one_outside : (n : ℕ) (g : ℕ → Value) (a m k : ℕ) → k < m → is_outside n (g (a + k)) ≡ true
    → list_any (is_outside n) (map g (range_with_len a m)) ≡ true
one_outside n g a zero k p e = absurd (omega (arith, p))
one_outside n g a (suc m) zero p e =
    let z : a + zero ≡ a = omega arith in
    ap (λ b. b || list_any (is_outside n) (map g (range_with_len (a + 1) m)))
    (subst (λ j. is_outside n (g j) ≡ true) z e)
one_outside n g a (suc m) (suc k) p e =
    let z : a + suc k ≡ a + 1 + k = omega arith in
    ap (λ b. is_outside n (g a) || b)
    (one_outside n g (a + 1) m k (omega (arith, p))
    (subst (λ j. is_outside n (g j) ≡ true) z e))
    ∙ or-true (is_outside n (g a))

lacks_by : (xs ws : Listed) (i : ℕ)
    → list_any (is_outside (length (lists_by xs i))) (lists_by ws i)
    ≡ list_any (is_outside (length_of xs i)) (map (row_at ws i) (range_with_len 0 (length_of ws i)))
lacks_by xs ws i = ap₂ (λ n vs. list_any (is_outside n) vs) (length-list xs i) (list-items ws i)

pub take-has : (xs ws : Listed) (i : ℕ)
    → ((k : ℕ) → k < length_of ws i → is_outside_at xs ws i k ≡ false)
    → list_any (is_outside (length (lists_by xs i))) (lists_by ws i) ≡ false
take-has xs ws i f =
    lacks_by xs ws i
    ∙ any_outside (length_of xs i) (row_at ws i) 0 (length_of ws i) (λ k l. f k (omega (arith, l)))

pub take-lacks : (xs ws : Listed) (i k : ℕ) → k < length_of ws i
    → is_outside_at xs ws i k ≡ true
    → list_any (is_outside (length (lists_by xs i))) (lists_by ws i) ≡ true
take-lacks xs ws i k p e =
    let z : k ≡ 0 + k = omega arith in
    lacks_by xs ws i
    ∙ one_outside (length_of xs i) (row_at ws i) 0 (length_of ws i) k p
    (subst (λ j. is_outside (length_of xs i) (row_at ws i j) ≡ true) z e)

-- ---- places that are made

pub takes-within : (xs ws : Listed) → size_of xs.starts ≡ size_of ws.starts
    → AreSpans xs.starts xs.stops (len xs.content)
    → AreSpans ws.starts ws.stops (len ws.content)
    → is_leaf (present (array_type ws.content)) ≡ true
    → is_mask (array_type ws.content) ≡ false
    → AllByRecursion (Has (array_type ws.content)) (array_items ws.content)
    → AreTested xs ws false → (places : Option Places)
    → ArePlacesOr (take_numbers xs ws) (size_of ws.starts) places
    → AreWithinOr (is_option (array_type ws.content)) (len xs.content) places
takes-within xs ws pairs sx sw l m has inside None h = tt
takes-within xs ws pairs sx sw l m has inside (Some p) h =
    take-within xs ws p.lane pairs sx sw l m has (λ i k q r. inside i q k r) h.lane

pub masks-within : (xs ws : Listed) → size_of xs.starts ≡ size_of ws.starts → AreAlike xs ws
    → AreSpans xs.starts xs.stops (len xs.content)
    → AreSpans ws.starts ws.stops (len ws.content)
    → is_leaf (present (array_type ws.content)) ≡ true
    → is_mask (array_type ws.content) ≡ true
    → AllByRecursion (Has (array_type ws.content)) (array_items ws.content)
    → (places : Option Places) → ArePlacesOr (mask_numbers xs ws) (size_of ws.starts) places
    → AreWithinOr (is_option (array_type ws.content)) (len xs.content) places
masks-within xs ws pairs alike sx sw l m has None h = tt
masks-within xs ws pairs alike sx sw l m has (Some p) h =
    mask-within xs ws p.lane pairs alike sx sw l m has h.lane

-- places of an index, from its lengths
pub takes-made : (xs ws : Listed) (n : ℕ) (o lane : Column) (p : Places)
    → before (length_of ws) n ≤ item_limit → o ≡ offsets_by (length_of ws) n
    → lane ≡ record { kind = kinds.I64; items = each_of (take_numbers xs ws) n }
    → p ≡ record { offsets = o; lane = lane } → ArePlaces (take_numbers xs ws) n p
takes-made xs ws n o lane p few eo el ep =
    let same : (i : ℕ) → i < n → length_of ws i ≡ length (take_numbers xs ws i) =
    λ i q. sym (length-map-range_with_len (take_at xs ws i) 0 (length_of ws i)) in
    rw ep (record {
      few = omega (
        arith,
        few,
        before-same (length_of ws) (λ i. length (take_numbers xs ws i)) n same,
      );
      offsets = eo
          ∙ offsets-same (length_of ws) (λ i. length (take_numbers xs ws i)) n same;
      lane = el;
    })

pub takes-many : (xs ws : Listed) (n : ℕ) → item_limit < before (length_of ws) n
    → item_limit < before (λ i. length (take_numbers xs ws i)) n
takes-many xs ws n h =
    let e : before (length_of ws) n ≡ before (λ i. length (take_numbers xs ws i)) n =
    before-same (length_of ws) (λ i. length (take_numbers xs ws i)) n
    (λ i q. sym (length-map-range_with_len (take_at xs ws i) 0 (length_of ws i))) in
    omega (arith, h, e)

-- how many places an index names
pub takes-total : (xs ws : Listed) (n : ℕ)
    → before (length_of ws) n ≡ before (λ i. length (take_numbers xs ws i)) n
takes-total xs ws n =
    before-same (length_of ws) (λ i. length (take_numbers xs ws i)) n
    (λ i q. sym (length-map-range_with_len (take_at xs ws i) 0 (length_of ws i)))
