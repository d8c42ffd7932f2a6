-- What an array is opened into, kind by kind, at places of a layout that is neither an option nor
-- an index.
use Rattle.std.proofs.Common.{◌≡◌, ℕ, suc, zero, ◌+◌, ◌-◌, ◌*◌, ◌<◌, ◌≤◌, ◌^◌, List, [], ◌∷◌, ◌++◌}
use Rattle.std.proofs.Common.{map, take, slice_get, Some, add-one, arith, refl, ap, sym, ◌∙◌}
use Rattle.std.specs.Prelude.{pos, Option, None}
use Rattle.std.proofs.lemmas.Int.{ints}
use Rattle.awk_types.specs.DataType.{Name, DataType, types_from, row_type}
use Rattle.awk_types.specs.Value.{Value, value, list, row, values_from, value_list}
use Rattle.awk_types.specs.Simple.{simple, simple_value, simple_values, values_by}
use Rattle.awk_lanes.specs.declared.kind.Kind.TheVariants.{I64}
use Rattle.awk_lanes.specs.Column.{Column}
use Rattle.awk_lanes.specs.Places.{at, place_at, size_of, AreSpans, IsSpan, IsIndex}
use Rattle.awk_layout.specs.Layout.{Layout, layouts_from, count, empty, flat, regular, lists}
use Rattle.awk_layout.specs.Layout.{offset_lists, rows}
use Rattle.awk_layout.specs.Valid.{len, IsValid, AllReach, AllValid, AreNames}
use Rattle.awk_types.specs.Limit.{limit}
use Rattle.awk_layout.specs.Item.{item, items_across, leaf_value, run}
use Rattle.awk_layout.specs.Typing.{layout_type, layout_types, array_type}
use Rattle.awk_gather.specs.Arrays.{array_item}
use Rattle.awk_gather_lanes.specs.Lanes.{picked, nexts, multiples, AreBlocks}
use Rattle.awk_gather.specs.Picked.{IsPicked}
use Rattle.awk_columns.specs.ListClass.{Class, list_type}
use Rattle.awk_columns.specs.Lists.{Listed, AreLists, AreOfClass}
use Rattle.awk_open.specs.Opened.{IsOpened, IsOpenedAt, ArePicked, AreAllPlaces, AreWithin, AreLong}
use Rattle.awk_open.specs.declared.opening.Opened.{Opened}
use Rattle.awk_open.specs.declared.opening.Opened.TheVariants.{Empty, Leaf, Items, Row}
use Rattle.awk_lanes.proofs.MadeLanes.{size-lane_of, at-lane_of}
use Rattle.awk_gather_lanes.proofs.PickedLanes.{size-picked, at-picked, at-nexts, places_le}
use Rattle.awk_gather_lanes.proofs.PickedLanes.{spans_picked, spans_of_offsets, blocks_of_places}
use Rattle.awk_columns.proofs.ArrayLaws.{item-offset_lists}
use Rattle.awk_spread.proofs.UnionItems.{simples-types}

-- the items of a list, simplified one by one
pub run_simple : (t : DataType) (f : ℕ → Value) (first n : ℕ)
    → values_from (map (simple_value t) (value_list (run f first n))) ≡ run
    (λ i. simple_value t (f i)) first n
run_simple t f first zero = refl
run_simple t f first (suc n) = ap (value (simple_value t (f first))) (run_simple t f (suc first) n)

pub item-lists : (s t : Column) (x : Layout) (i : ℕ)
    → array_item (lists s t x) i ≡ list (run (array_item x) (place_at s i)
    (place_at t i - place_at s i))
item-lists s t x i =
    ap list (run_simple (layout_type x) (item x) (place_at s i) (place_at t i - place_at s i))

pub item-regular : (size n : ℕ) (x : Layout) (i : ℕ)
    → array_item (regular size n x) i ≡ list (run (array_item x) (i * size) size)
item-regular size n x i = ap list (run_simple (layout_type x) (item x) (i * size) size)

-- the parts of a row, simplified one by one
parts_simple : (xs : List Layout) (i : ℕ)
    → values_by (simple_values (layout_types (layouts_from xs)))
    (value_list (items_across (layouts_from xs) i)) ≡ map (λ x. array_item x i) xs
parts_simple [] i = refl
parts_simple (x ∷ xs) i = ap (λ vs. array_item x i ∷ vs) (parts_simple xs i)

pub item-rows : (names : Option (List Name)) (n : ℕ) (xs : List Layout) (i : ℕ)
    → array_item (rows names n (layouts_from xs)) i ≡ row
    (values_from (map (λ x. array_item x i) xs))
item-rows None n xs i = ap (λ vs. row (values_from vs)) (parts_simple xs i)
item-rows (Some names) n xs i = ap (λ vs. row (values_from vs)) (parts_simple xs i)

-- the type of a row, by those of its columns
pub type-rows : (names : Option (List Name)) (n : ℕ) (xs : List Layout)
    → array_type (rows names n (layouts_from xs)) ≡ row_type names (types_from (map array_type xs))
type-rows None n xs = ap (λ ts. row_type None (types_from ts)) (simples-types xs)
type-rows (Some names) n xs = ap (λ ts. row_type (Some names) (types_from ts)) (simples-types xs)

-- what an opening at places is: see `IsOpenedAt`
pub opened_leaf : (c p a : Column) → size_of p < 2 ^ 63 → a ≡ picked c p
    → IsOpenedAt (flat c) p (Leaf a)
opened_leaf c p a l e = rw e (record {
  kind = refl;
  size = size-picked c p;
  valid = omega (arith, size-picked c p);
  lengths = tt;
  items = λ j k. sym (ap (leaf_value c.kind) (at-picked c p j k));
})

-- lists of a class, of the content of a layout of lists
abbrev pub listed : Class → Column → Column → Layout → Listed
listed c s t y = record { class = c; starts = s; stops = t; content = y }

abbrev pub items_of : Class → Column → Column → Layout → Opened
items_of c s t y = Items (listed c s t y)

-- what is opened into lists is lists of their class
pub are_lists : (x : Layout) (l : Listed) → IsOpened x (Items l)
    → AreLists l.class l.starts l.stops l.content
are_lists x l o = record {
  spans = o.valid.1;
  fits = o.valid.0;
  valid = o.valid.2;
  same_class = o.lengths;
}

pub are_lists-at : (x : Layout) (p : Column) (l : Listed) → IsOpenedAt x p (Items l)
    → AreLists l.class l.starts l.stops l.content
are_lists-at x p l o = record {
  spans = o.valid.1;
  fits = o.valid.0;
  valid = o.valid.2;
  same_class = o.lengths;
}

opened_items : (x y z : Layout) (p a b : Column) (c : Class)
    → array_type x ≡ list_type c (array_type y) → IsValid y → z ≡ y → size_of p < 2 ^ 63
    → size_of a ≡ size_of p → AreSpans a b (len y) → AreOfClass c a b
    → ((j : ℕ) → j < size_of p → array_item x (place_at p j) ≡ list
    (run (array_item y) (place_at a j) (place_at b j - place_at a j))) → IsOpenedAt x p
    (items_of c a b z)
opened_items x y z p a b c t v e l s h k f = rw e (record {
  kind = t;
  size = s;
  valid = (omega (arith, s), h, v);
  lengths = k;
  items = f;
})

pub opened_lists : (s t p a b : Column) (x z : Layout) → IsValid (lists s t x) → z ≡ x
    → size_of p < 2 ^ 63 → IsIndex p (size_of s) → a ≡ picked s p → b ≡ picked t p
    → IsOpenedAt (lists s t x) p (items_of None a b z)
opened_lists s t p a b x z v g l h e f =
    rw (e, f) (opened_items (lists s t x) x z p (picked s p) (picked t p) None refl v.2 g l
    (size-picked s p) (spans_picked s t p (len x) v.1 h) tt
    (λ j k. rw (at-picked s p j k, at-picked t p j k) (item-lists s t x (place_at p j))))

pub opened_offsets : (o p a b : Column) (x z : Layout) → IsValid (offset_lists o x) → z ≡ x
    → size_of p < 2 ^ 63 → IsIndex p (size_of o - 1) → a ≡ picked o p → b ≡ nexts o p
    → IsOpenedAt (offset_lists o x) p (items_of None a b z)
opened_offsets o p a b x z v g l h e f =
    rw (e, f) (opened_items (offset_lists o x) x z p (picked o p) (nexts o p) None refl v.2 g l
    (size-picked o p) (spans_of_offsets o p (len x) v.1 h) tt
    (λ j k. rw (at-picked o p j k, at-nexts o p j k) (item-offset_lists o x (place_at p j))))

multiple_span : (n a size : ℕ) → a * size + size ≤ n
    → IsSpan n (pos (a * size + 0)) (pos (a * size + size))
multiple_span n a size h e = (omega (arith, ints), omega (arith, ints), omega (arith, ints))

at-multiples : (size d : ℕ) (p : Column) (j : ℕ) → j < size_of p
    → at (multiples size d p) j ≡ pos (place_at p j * size + d)
at-multiples size d p j h = at-lane_of I64 (size_of p) (λ i. pos (place_at p i * size + d)) j h

size-multiples : (size d : ℕ) (p : Column) → size_of (multiples size d p) ≡ size_of p
size-multiples size d p = size-lane_of I64 (size_of p) (λ i. pos (place_at p i * size + d))

spans_multiples : (size n : ℕ) (p : Column) → AreBlocks n size p
    → AreSpans (multiples size 0 p) (multiples size size p) n
spans_multiples size n p h = record {
  start_kind = tt;
  stop_kind = tt;
  same_size = size-multiples size 0 p ∙ sym (size-multiples size size p);
  ordered = λ i k.
      let k' : i < size_of p = omega (arith, size-multiples size 0 p) in
      rw (at-multiples size 0 p i k', at-multiples size size p i k')
      (multiple_span n (place_at p i) size (h i k').1);
}

sized_multiples : (size : ℕ) (p : Column) (i : ℕ) → i < size_of p
    → place_at (multiples size size p) i - place_at (multiples size 0 p) i ≡ size
sized_multiples size p i k =
    let w : place_at p i * size + size - (place_at p i * size + 0) ≡ size = omega arith in
    rw (at-multiples size 0 p i k, at-multiples size size p i k) w

pub opened_regular : (size n : ℕ) (p a b : Column) (x z : Layout) → IsValid (regular size n x)
    → z ≡ x → size_of p < 2 ^ 63 → IsIndex p n → a ≡ multiples size 0 p → b ≡ multiples size size p
    → IsOpenedAt (regular size n x) p (items_of (Some size) a b z)
opened_regular size n p a b x z v g l h e f =
    rw (e, f) (opened_items (regular size n x) x z p (multiples size 0 p) (multiples size size p)
    (Some size) refl v.2 g l (size-multiples size 0 p) (spans_multiples size (len x) p
    (blocks_of_places n (len x) size p h v.1))
    (λ i k. sized_multiples size p i (omega (arith, k, size-multiples size 0 p)))
    (λ j k.
    let d : place_at p j * size + 0 ≡ place_at p j * size = omega arith in
    let w : place_at p j * size + size - place_at p j * size ≡ size = omega arith in
    rw (at-multiples size 0 p j k, at-multiples size size p j k, d, w)
    (item-regular size n x (place_at p j))))

pub opened_empty : (p : Column) → IsIndex p 0 → IsOpenedAt empty p Empty
opened_empty p h = record {
  kind = refl;
  size = none (size_of p) refl;
  valid = tt;
  lengths = tt;
  items = λ j k. refl;
}
  where
    none : (n : ℕ) → size_of p ≡ n → 0 ≡ n
    none zero e = refl
    none (suc n) e = absurd (omega (arith, (h.places 0 (omega arith)).1))

-- ---- columns of a row
pub places_at : (p : Column) (xs : List Layout) (i : ℕ) (y : Layout) → slice_get xs i ≡ Some y
    → AreAllPlaces p xs → IsIndex p (len y)
places_at p [] i y e h = cc
places_at p (x ∷ xs) zero y e h = let f : x ≡ y = cc in rw (← f) h.0
places_at p (x ∷ xs) (suc i) y e h = places_at p xs i y e h.1

pub within_at : (xs : List Layout) (i : ℕ) (y : Layout) → slice_get xs i ≡ Some y → AreWithin xs
    → limit (array_type y) ≡ None
within_at [] i y e h = cc
within_at (x ∷ xs) zero y e h = let f : x ≡ y = cc in rw (← f) h.0
within_at (x ∷ xs) (suc i) y e h = within_at xs i y e h.1

picked_suc : (p : Column) (xs : List Layout) (i : ℕ) (y : Layout) (rs : List Layout) (r : Layout)
    → slice_get xs i ≡ Some y → ArePicked (take i xs) p rs → IsPicked y p r → IsValid r
    → ArePicked (take (suc i) xs) p (rs ++ r ∷ [])
picked_suc p [] i y rs r e h q v = cc
picked_suc p (x ∷ xs) zero y [] r e h q v = let f : x ≡ y = cc in ((rw f q, v), tt)
picked_suc p (x ∷ xs) zero y (s ∷ rs) r e h q v = absurd h
picked_suc p (x ∷ xs) (suc i) y [] r e h q v = absurd h
picked_suc p (x ∷ xs) (suc i) y (s ∷ rs) r e h q v = (h.0, picked_suc p xs i y rs r e h.1 q v)

pub picked_push : (p : Column) (xs : List Layout) (i : ℕ) (y : Layout) (rs : List Layout)
    (r : Layout) → slice_get xs i ≡ Some y → ArePicked (take i xs) p rs → IsPicked y p r → IsValid r
    → ArePicked (take (i + 1) xs) p (rs ++ r ∷ [])
picked_push p xs i y rs r e h q v = rw add-one (picked_suc p xs i y rs r e h q v)

reach_picked : (p : Column) (xs rs : List Layout) → ArePicked xs p rs
    → AllReach (size_of p) (layouts_from rs)
reach_picked p [] [] h = tt
reach_picked p (x ∷ xs) (r ∷ rs) h = (omega (arith, h.0.0.size), reach_picked p xs rs h.1)
reach_picked p [] (r ∷ rs) h = absurd h
reach_picked p (x ∷ xs) [] h = absurd h

long_picked : (p : Column) (xs rs : List Layout) → ArePicked xs p rs → AreLong (size_of p) rs
long_picked p [] [] h = tt
long_picked p (x ∷ xs) (r ∷ rs) h = (h.0.0.size, long_picked p xs rs h.1)
long_picked p [] (r ∷ rs) h = absurd h
long_picked p (x ∷ xs) [] h = absurd h

valid_picked : (p : Column) (xs rs : List Layout) → ArePicked xs p rs → AllValid (layouts_from rs)
valid_picked p [] [] h = tt
valid_picked p (x ∷ xs) (r ∷ rs) h = (h.0.1, valid_picked p xs rs h.1)
valid_picked p [] (r ∷ rs) h = absurd h
valid_picked p (x ∷ xs) [] h = absurd h

count_picked : (p : Column) (xs rs : List Layout) → ArePicked xs p rs
    → count (layouts_from rs) ≡ count (layouts_from xs)
count_picked p [] [] h = refl
count_picked p (x ∷ xs) (r ∷ rs) h = omega (arith, count_picked p xs rs h.1)
count_picked p [] (r ∷ rs) h = absurd h
count_picked p (x ∷ xs) [] h = absurd h

picked_item : (x r : Layout) (p : Column) (j : ℕ) → IsPicked x p r → j < size_of p
    → array_item x (place_at p j) ≡ array_item r j
picked_item x r p j h k =
    ap (λ t. simple_value t (item x (place_at p j))) (sym h.same_type) ∙ ap
    (simple_value (layout_type r)) (sym (h.items j k))

across_picked : (p : Column) (xs rs : List Layout) (j : ℕ) → ArePicked xs p rs → j < size_of p
    → map (λ x. array_item x (place_at p j)) xs ≡ map (λ r. array_item r j) rs
across_picked p [] [] j h k = refl
across_picked p (x ∷ xs) (r ∷ rs) j h k = λ i. picked_item x r p j h.0.0 k i ∷ across_picked p xs rs
    j h.1 k i
across_picked p [] (r ∷ rs) j h k = absurd h
across_picked p (x ∷ xs) [] j h k = absurd h

types_picked : (p : Column) (xs rs : List Layout) → ArePicked xs p rs
    → map array_type xs ≡ map array_type rs
types_picked p [] [] h = refl
types_picked p (x ∷ xs) (r ∷ rs) h = λ i. simple (sym h.0.0.same_type i) ∷ types_picked p xs rs h.1
    i
types_picked p [] (r ∷ rs) h = absurd h
types_picked p (x ∷ xs) [] h = absurd h

pub opened_rows : (names others : Option (List Name)) (n : ℕ) (p : Column) (xs rs : List Layout)
    → others ≡ names → AreNames names (count (layouts_from xs)) → size_of p < 2 ^ 63
    → ArePicked xs p rs → IsOpenedAt (rows names n (layouts_from xs)) p (Row others rs)
opened_rows names others n p xs rs e a l h = rw e (record {
  kind = type-rows names n xs ∙ ap (λ ts. row_type names (types_from ts)) (types_picked p xs rs h);
  size = refl;
  valid = (l, rw (count_picked p xs rs h) a, reach_picked p xs rs h, valid_picked p xs rs h);
  lengths = long_picked p xs rs h;
  items = λ j k. item-rows names n xs (place_at p j) ∙ ap (λ vs. row (values_from vs))
      (across_picked p xs rs j h k);
})

all_places : (n : ℕ) (p : Column) (xs : List Layout) → AllReach n (layouts_from xs) → IsIndex p n
    → AreAllPlaces p xs
all_places n p [] h q = tt
all_places n p (x ∷ xs) h q = (places_le n (len x) p q h.0, all_places n p xs h.1 q)

pub row_places : (n : ℕ) (p : Column) (xs : List Layout) → AllReach n (layouts_from xs)
    → IsIndex p n → AreAllPlaces p xs
row_places = all_places
