-- The item at a place of each list, by its place in the content.
use Rattle.std.proofs.Common.{◌≡◌, ◌≢◌, ℕ, ◌+◌, ◌-◌, ◌<◌, ◌^◌, get_or}
use Rattle.std.proofs.Common.{refl, ap, ap₂, sym, ◌∙◌, subst, arith, true≢false, ltb-true}
use Rattle.std.specs.Prelude.{ℤ, pos, negsuc, ◌≤ℤ◌, nat_lt, [], Bool, true, false}
use Rattle.std.specs.Prelude.{Option, Some, None, is_none}
use Rattle.std.specs.Prelude.{option_map, if◌then◌else◌}
use Rattle.std.specs.List.{AllByRecursion}
use Rattle.std.proofs.lemmas.Bool.{ltb-false}
use Rattle.std.proofs.lemmas.Int.{ints}
use Rattle.std.proofs.lemmas.List.Folds.{list_any_at}
use Rattle.std.proofs.lemmas.List.FromFn.{get_or-map-range_with_len, length-map-range_with_len}
use Rattle.awk_base.proofs.Ranges.{none-any, map-same}
use Rattle.awk_base.proofs.Every.{all-at}
use Rattle.awk_types.specs.Has.{Has}
use Rattle.awk_types.specs.Simple.{simple_value}
use Rattle.awk_types.specs.Value.{null}
use Rattle.awk_types.proofs.SimpleLaws.{simple_is_simple, simple_twice, value_stays}
use Rattle.awk_lanes.specs.Column.{Column}
use Rattle.awk_lanes.specs.Numbers.{nat_of}
use Rattle.awk_lanes.specs.Places.{size_of, at, place_at, AreSpans, IsIndex, IsIndexKind}
use Rattle.awk_lanes.specs.declared.kind.Kind.TheVariants.{I64}
use Rattle.awk_layout.specs.Item.{at_option}
use Rattle.awk_layout.specs.Layout.{Layout, flat}
use Rattle.awk_layout.specs.Typing.{layout_type, array_type, array_items}
use Rattle.awk_layout.specs.Valid.{len, IsValid}
use Rattle.awk_layout.proofs.ArrayItems.{length-array_items, get_or-array_items}
use Rattle.awk_layout.proofs.Runs.{value_list-run, length-run}
use Rattle.awk_gather_lanes.specs.Lanes.{picked}
use Rattle.awk_gather.specs.Arrays.{array_item, IsGathered}
use Rattle.awk_gather.proofs.GatheredArrays.{gathered_of}
use Rattle.awk_gather.proofs.PickedNodes.{flat_picked}
use Rattle.awk_lanes.specs.Made.{lane_of}
use Rattle.awk_lanes.proofs.MadeLanes.{size-lane_of, at-lane_of}
use Rattle.awk_list_functions.specs.Made.{IsColumn}
use Rattle.awk_columns.specs.Lists.{items_at, all_items_at}
use Rattle.awk_list_functions.specs.declared.causes.Spoil.TheVariants.{Index}
use Rattle.awk_select.specs.Cells.{IsBelow}
use Rattle.awk_at_each.specs.Each.{item_in, lacks_place, item_at, item_place, item_number, AllHave}
use Rattle.awk_at_each.specs.Each.{number_by}
use Rattle.awk_select.specs.Places.{place_in}
use Rattle.awk_select.proofs.PickedPlaces.{place_in-below}

-- ---- one list

-- how many items list j has
abbrev length_of : Column → Column → ℕ → ℕ
length_of s t j = place_at t j - place_at s j

is_none-map : (f : ℕ → ℕ) (o : Option ℕ) → is_none (option_map f o) ≡ is_none o
is_none-map f None = refl
is_none-map f (Some k) = refl

lacks-item : (i : ℤ) (s t : Column) (y : Layout) (j : ℕ)
    → lacks_place i (items_at s t y j) ≡ is_none (item_place i s t j)
lacks-item i s t y j =
    ap (λ n. is_none (place_in n i)) (length-run (array_item y) (place_at s j) (length_of s t j))
    ∙ sym (is_none-map (λ k. place_at s j + k) (place_in (length_of s t j) i))

found : (o : Option ℕ) → is_none o ≡ false → (k : ℕ) × (o ≡ Some k)
found None h = absurd (true≢false h)
found (Some k) h = (k, refl)

-- the place of the item in its list
place-found : (i : ℤ) (s t : Column) (j : ℕ) → is_none (item_place i s t j) ≡ false
    → (k : ℕ) × (place_in (length_of s t j) i ≡ Some k)
place-found i s t j h =
    found (place_in (length_of s t j) i)
    (sym (is_none-map (λ k. place_at s j + k) (place_in (length_of s t j) i)) ∙ h)

-- a list with a place lies within the content
place-within : (s t : Column) (n j k : ℕ) → AreSpans s t n → j < size_of s
    → k < length_of s t j → place_at s j + k < n
place-within s t n j k h l b =
    let differ : at s j ≢ at t j = λ e. absurd (omega (arith, ap nat_of e, b)) in
    let o = h.ordered j l differ in
    inside (at s j) (at t j) o.0 o.1 o.2 b
  where
    inside : (a c : ℤ) → pos 0 ≤ℤ a → a ≤ℤ c → c ≤ℤ pos n → k < nat_of c - nat_of a
        → nat_of a + k < n
    inside (pos a) (pos c) z o u d = omega (arith, ints, o, u, d)
    inside (pos a) (negsuc c) z o u d = absurd (omega (arith, d))
    inside (negsuc a) c z o u d = absurd (omega (arith, ints, z))

-- the item of the list is that of the content
item-in : (i : ℤ) (s t : Column) (y : Layout) (j k : ℕ) → place_in (length_of s t j) i ≡ Some k
    → k < length_of s t j → item_in i (items_at s t y j) ≡ array_item y (place_at s j + k)
item-in i s t y j k e b =
    let n = length_of s t j in
    let vs = items_at s t y j in
    ap (λ m. at_option (place_in m i) (λ k. get_or vs k null))
    (length-run (array_item y) (place_at s j) n)
    ∙ ap (λ o. at_option o (λ k. get_or vs k null)) e
    ∙ ap (λ vs. get_or vs k null) (value_list-run (array_item y) (place_at s j) n)
    ∙ get_or-map-range_with_len (array_item y) (place_at s j) n k (place_at s j + k) null b refl

-- an item of an array is simple
item-stays : (y : Layout) (m : ℕ) → AllByRecursion (Has (array_type y)) (array_items y)
    → m < len y → simple_value (array_type y) (array_item y m) ≡ array_item y m
item-stays y m h l =
    let has : Has (array_type y) (get_or (array_items y) m null) =
    all-at (Has (array_type y)) (array_items y) m null h (omega (arith, l, length-array_items y)) in
    value_stays (array_type y) (array_item y m) (simple_is_simple (layout_type y))
    (subst (Has (array_type y)) (get_or-array_items y m l) has)

-- ---- all lists

pub AllHave-more : (i : ℤ) (s t : Column) (n k : ℕ) → AllHave i s t n
    → item_place i s t n ≡ Some k → AllHave i s t (n + 1)
AllHave-more i s t n k h e j l = by (nat_lt j n) refl
  where
    by : (b : Bool) → nat_lt j n ≡ b → is_none (item_place i s t j) ≡ false
    by true before = h j (ltb-true j n before)
    by false before =
        let same : j ≡ n = omega (arith, l, ltb-false j n before) in
        ap (λ j. is_none (item_place i s t j)) same ∙ ap is_none e

-- a list without the place
pub lists-lack : (i : ℤ) (s t : Column) (y : Layout) (j : ℕ) → j < size_of s
    → item_place i s t j ≡ None
    → (item_at i).spoil (array_type y) (all_items_at s t y) ≡ Some Index
lists-lack i s t y j l e =
    let lacks : lacks_place i (items_at s t y j) ≡ true = lacks-item i s t y j ∙ ap is_none e in
    let at_j = get_or-map-range_with_len (items_at s t y) 0 (size_of s) j j [] l (omega arith) in
    ap (λ b. if b then Some Index else None)
    (list_any_at (lacks_place i) (all_items_at s t y) j []
    (omega (arith, l, length-map-range_with_len (items_at s t y) 0 (size_of s)))
    (ap (lacks_place i) at_j ∙ lacks))

pub lists-have : (i : ℤ) (s t : Column) (y : Layout) → AllHave i s t (size_of s)
    → (item_at i).spoil (array_type y) (all_items_at s t y) ≡ None
lists-have i s t y h =
    ap (λ b. if b then Some Index else None)
    (none-any (lacks_place i) (items_at s t y) 0 (size_of s)
    (λ j l. lacks-item i s t y j ∙ h j (omega (arith, l))))

module _ (i : ℤ) (s t : Column) (y : Layout) (p : Column) (spans : AreSpans s t (len y))
    (have : AllHave i s t (size_of s))
    (made : p ≡ lane_of I64 (size_of s) (item_number i s t (λ k. pos k))) where
  place-of : (j m : ℕ) → j < size_of s → item_place i s t j ≡ Some m → at p j ≡ pos m
  place-of j m l e =
      ap (λ c. at c j) made
      ∙ at-lane_of I64 (size_of s) (item_number i s t (λ k. pos k)) j l
      ∙ ap (number_by (λ k. pos k)) e

  number-at : (j k : ℕ) → j < size_of s → place_in (length_of s t j) i ≡ Some k
      → at p j ≡ pos (place_at s j + k)
  number-at j k l e =
      place-of j (place_at s j + k) l (ap (option_map (λ k. place_at s j + k)) e)

  pub items-size : size_of p ≡ size_of s
  items-size = ap size_of made ∙ size-lane_of I64 (size_of s) (item_number i s t (λ k. pos k))

  pub items-index : IsIndex p (len y)
  items-index = record {
    kind = subst (λ c. IsIndexKind c.kind) (sym made) tt;
    places = λ j l.
        let l' : j < size_of s = omega (arith, l, items-size) in
        let f = place-found i s t j (have j l') in
        let e = number-at j f.0 l' f.1 in
        let b = subst (IsBelow (length_of s t j)) f.1 (place_in-below (length_of s t j) i) in
        let w = place-within s t (len y) j f.0 spans l' b in
        (rw e (omega (arith, ints)), rw e w);
  }

  pub items-column : (z : Layout) → IsGathered y p z → IsValid z
      → AllByRecursion (Has (array_type y)) (array_items y)
      → IsColumn (array_type y) (λ j. item_in i (items_at s t y j)) (size_of s) z
  items-column z g v h = record {
    valid = v;
    size = g.size ∙ items-size;
    typ = g.typ ∙ sym (simple_twice (layout_type y));
    items = λ j l.
        let f = place-found i s t j (have j l) in
        let b = subst (IsBelow (length_of s t j)) f.1 (place_in-below (length_of s t j) i) in
        let m = place_at s j + f.0 in
        g.each j (omega (arith, l, items-size))
        ∙ ap (λ z. array_item y (nat_of z)) (number-at j f.0 l f.1)
        ∙ sym (item-stays y m h (place-within s t (len y) j f.0 spans l b))
        ∙ ap (simple_value (array_type y)) (sym (item-in i s t y j f.0 f.1 b));
  }

  -- the numbers at the places
  numbers-picked : (c r : Column) → c.kind ≡ I64
      → r ≡ lane_of I64 (size_of s) (item_number i s t (at c)) → r ≡ picked c p
  numbers-picked c r k e =
      e ∙ ap (λ zs. record { kind = I64; items = zs })
      (map-same (item_number i s t (at c)) (λ j. at c (place_at p j)) 0 (size_of s)
      (λ j a b.
      let l : j < size_of s = omega (arith, b) in
      let f = found (item_place i s t j) (have j l) in
      ap (number_by (at c)) f.1
      ∙ sym (ap (λ z. at c (nat_of z)) (place-of j f.0 l f.1))))
      ∙ ap₂ (λ kind n. lane_of kind n (λ j. at c (place_at p j))) (sym k) (sym items-size)

  -- they are the items
  pub numbers-gathered : (c r : Column) → c.kind ≡ I64 → y ≡ flat c
      → r ≡ lane_of I64 (size_of s) (item_number i s t (at c)) → IsGathered y p (flat r)
  numbers-gathered c r k q e =
      subst (λ x. IsGathered x p (flat r)) (sym q)
      (gathered_of (flat c) (flat (picked c p)) (flat r) p
      (ap (λ d. flat d) (numbers-picked c r k e)) (ap (λ (d : Column). d.kind) made)
      (subst (λ x. IsIndex p (len x)) q items-index) (flat_picked c p))

-- ---- numbers that are moved

pub numbers-few : (i : ℤ) (s t c r : Column) → size_of s < 2 ^ 63
    → r ≡ lane_of I64 (size_of s) (item_number i s t (at c)) → size_of r < 2 ^ 63
numbers-few i s t c r l e =
    omega (arith, l, ap size_of e, size-lane_of I64 (size_of s) (item_number i s t (at c)))

pub numbers-column : (i : ℤ) (s t : Column) (y : Layout) (c r : Column) → AreSpans s t (len y)
    → AllHave i s t (size_of s) → c.kind ≡ I64 → y ≡ flat c → size_of s < 2 ^ 63
    → AllByRecursion (Has (array_type y)) (array_items y)
    → r ≡ lane_of I64 (size_of s) (item_number i s t (at c))
    → IsColumn (array_type y) (λ j. item_in i (items_at s t y j)) (size_of s) (flat r)
numbers-column i s t y c r spans have k q l h e =
    let p : Column = lane_of I64 (size_of s) (item_number i s t (λ k. pos k)) in
    items-column i s t y p spans have refl (flat r)
    (numbers-gathered i s t y p spans have refl c r k q e) (numbers-few i s t c r l e) h
