-- What is chosen of a layout has no more nodes and is no higher, and it is valid.
use Rattle.std.proofs.Common.{◌≡◌, ℕ, zero, suc, ◌+◌, ◌<◌, ◌≤◌, ◌^◌, true, List, [], ◌∷◌, length}
use Rattle.std.proofs.Common.{map, take, slice_get, Option, Some, None, refl, ap, subst, arith}
use Rattle.std.proofs.lemmas.List.{length-map}
use Rattle.std.specs.List.{AllByRecursion}
use Rattle.std.specs.Option.{option_map}
use Rattle.awk_types.specs.DataType.{Name}
use Rattle.awk_types.specs.Names.{is_among, AreDistinct, place_of}
use Rattle.awk_lanes.specs.Column.{Column}
use Rattle.awk_lanes.specs.Places.{place_at}
use Rattle.awk_layout.specs.Layout.{Layout, Layouts, layout_list, layouts_from, count, weight}
use Rattle.awk_layout.specs.Layout.{weights, height, heights, empty, flat, regular, lists}
use Rattle.awk_layout.specs.Layout.{offset_lists, rows, indexed, optional, byte_masked, bit_masked}
use Rattle.awk_layout.specs.Layout.{unmasked, union, no_layouts, layout}
use Rattle.awk_layout.specs.Valid.{len_of, IsValid, AllValid, AllReach, AreNames, IsUnion}
use Rattle.awk_layout.specs.Typing.{layout_type, layout_types}
use Rattle.awk_layout.specs.Contents.{count-layouts_from, height-get}
use Rattle.awk_view.specs.Choice.{Choice, field, fields, without, row_names, beside, apart_from}
use Rattle.awk_view.specs.Layouts.{IsChoice, AreAmong, IsFound, AreFound, row_of_choice}
use Rattle.awk_view.specs.Layouts.{layout_of_choice, layouts_of_choice}
use Rattle.awk_view.proofs.FirstItems.{weight-first_items, height-first_items, first_valid}
use Rattle.awk_view.proofs.ChoiceLayouts.{layouts_from-list, get_reaches, get_valid, get_weight}
use Rattle.awk_view.proofs.ChoiceLayouts.{get_height, length-row_names, beside_within}
use Rattle.awk_view.proofs.ChoiceLayouts.{beside_reaches, place_within, rows_found, rows_named}
use Rattle.awk_view.proofs.ChoiceLayouts.{len-layout_of_choice}
use Rattle.awk_range.proofs.Weights.{weights-take_more, weights-take-le}
use Rattle.awk_view.proofs.ChoiceNodes.{weights-beside, heights-beside, weights-apart}
use Rattle.awk_view.proofs.ChoiceNodes.{heights-apart, reach-apart, valid-apart, length-apart}
use Rattle.awk_view.proofs.ChoiceNodes.{distinct-apart}

-- ---- nodes

weight_of_row : (c : Choice) (names : Option (List Name)) (n : ℕ) (xs : List Layout) → IsChoice c
    → AreNames names (length xs) → AreAmong c (row_names names (length xs))
    → weight (row_of_choice c names n xs) ≤ weights (layouts_from xs) + 1
weight_of_row (field k) names n xs d a e =
    omega (
      arith,
      weight-first_items n (beside empty k (row_names names (length xs)) xs),
      get_weight
          (place_of k (row_names names (length xs))) xs (beside_within k names (length xs) a e),
    )
weight_of_row (fields ks) names n xs d a e =
    omega (
      arith,
      weights-beside (row_names names (length xs)) xs ks
          (length-row_names names (length xs) a) d e,
    )
weight_of_row (without k) names n xs d a e =
    omega (arith, weights-apart k (row_names names (length xs)) xs)

height_of_row : (c : Choice) (names : Option (List Name)) (n : ℕ) (xs : List Layout)
    → AreNames names (length xs) → AreAmong c (row_names names (length xs))
    → height (row_of_choice c names n xs) ≤ heights (layouts_from xs) + 1
height_of_row (field k) names n xs a e =
    omega (
      arith,
      height-first_items n (beside empty k (row_names names (length xs)) xs),
      get_height
          (place_of k (row_names names (length xs))) xs (beside_within k names (length xs) a e),
    )
height_of_row (fields ks) names n xs a e =
    omega (
      arith,
      heights-beside (row_names names (length xs)) xs ks
          (length-row_names names (length xs) a) e,
    )
height_of_row (without k) names n xs a e =
    omega (arith, heights-apart k (row_names names (length xs)) xs)

mutual
  pub weight-layout_of_choice : (c : Choice) (x : Layout) → IsChoice c → IsValid x
      → IsFound c (layout_type x) → weight (layout_of_choice c x) ≤ weight x
  weight-layout_of_choice c empty d v f = omega arith
  weight-layout_of_choice c (flat l) d v f = omega arith
  weight-layout_of_choice c (regular size n x) d v f =
      omega (arith, weight-layout_of_choice c x d v.2 f)
  weight-layout_of_choice c (lists s t x) d v f = omega (arith, weight-layout_of_choice c x d v.2 f)
  weight-layout_of_choice c (offset_lists o x) d v f =
      omega (arith, weight-layout_of_choice c x d v.2 f)
  weight-layout_of_choice c (rows names n xs) d v f =
      let e = ap weights (layouts_from-list xs) in
      let h = weight_of_row c names n (layout_list xs) d (rows_named names xs v.1)
      (rows_found c names xs f) in
      omega arith
  weight-layout_of_choice c (indexed j x) d v f = omega (arith, weight-layout_of_choice c x d v.2 f)
  weight-layout_of_choice c (optional j x) d v f =
      omega (arith, weight-layout_of_choice c x d v.2 f)
  weight-layout_of_choice c (byte_masked m b x) d v f =
      omega (arith, weight-layout_of_choice c x d v.2 f)
  weight-layout_of_choice c (bit_masked m b x) d v f =
      omega (arith, weight-layout_of_choice c x d v.2 f)
  weight-layout_of_choice c (unmasked n x) d v f =
      omega (arith, weight-layout_of_choice c x d v.2 f)
  weight-layout_of_choice c (union t j xs) d v f =
      omega (arith, weights-layouts_of_choice c xs d v.2 f)

  pub weights-layouts_of_choice : (c : Choice) (xs : Layouts) → IsChoice c → AllValid xs
      → AreFound c (layout_types xs) → weights (layouts_from (layouts_of_choice c xs)) ≤ weights xs
  weights-layouts_of_choice c no_layouts d v f = omega arith
  weights-layouts_of_choice c (layout x xs) d v f =
      omega (arith, weight-layout_of_choice c x d v.0 f.0, weights-layouts_of_choice c xs d v.1 f.1)

mutual
  pub height-layout_of_choice : (c : Choice) (x : Layout) → IsValid x → IsFound c (layout_type x)
      → height (layout_of_choice c x) ≤ height x
  height-layout_of_choice c empty v f = omega arith
  height-layout_of_choice c (flat l) v f = omega arith
  height-layout_of_choice c (regular size n x) v f =
      omega (arith, height-layout_of_choice c x v.2 f)
  height-layout_of_choice c (lists s t x) v f = omega (arith, height-layout_of_choice c x v.2 f)
  height-layout_of_choice c (offset_lists o x) v f =
      omega (arith, height-layout_of_choice c x v.2 f)
  height-layout_of_choice c (rows names n xs) v f =
      let e = ap heights (layouts_from-list xs) in
      let h = height_of_row c names n (layout_list xs) (rows_named names xs v.1)
      (rows_found c names xs f) in
      omega arith
  height-layout_of_choice c (indexed j x) v f = omega (arith, height-layout_of_choice c x v.2 f)
  height-layout_of_choice c (optional j x) v f = omega (arith, height-layout_of_choice c x v.2 f)
  height-layout_of_choice c (byte_masked m b x) v f =
      omega (arith, height-layout_of_choice c x v.2 f)
  height-layout_of_choice c (bit_masked m b x) v f =
      omega (arith, height-layout_of_choice c x v.2 f)
  height-layout_of_choice c (unmasked n x) v f = omega (arith, height-layout_of_choice c x v.2 f)
  height-layout_of_choice c (union t j xs) v f = omega (arith, heights-layouts_of_choice c xs v.2 f)

  pub heights-layouts_of_choice : (c : Choice) (xs : Layouts) → AllValid xs
      → AreFound c (layout_types xs) → heights (layouts_from (layouts_of_choice c xs)) ≤ heights xs
  heights-layouts_of_choice c no_layouts v f = omega arith
  heights-layouts_of_choice c (layout x xs) v f =
      omega (arith, height-layout_of_choice c x v.0 f.0, heights-layouts_of_choice c xs v.1 f.1)

-- ---- validity

pub reach-beside : (n : ℕ) (names : List Name) (xs : List Layout) (ks : List Name)
    → length names ≡ length xs → AllByRecursion (λ k. is_among k names ≡ true) ks
    → AllReach n (layouts_from xs)
    → AllReach n (layouts_from (map (λ k. beside empty k names xs) ks))
reach-beside n names xs [] e h r = tt
reach-beside n names xs (k ∷ ks) e h r = (
  get_reaches n (place_of k names) xs (omega (arith, place_within k names h.0)) r,
  reach-beside n
      names xs ks e h.1 r,
)

valid-beside : (names : List Name) (xs : List Layout) (ks : List Name) → AllValid (layouts_from xs)
    → AllValid (layouts_from (map (λ k. beside empty k names xs) ks))
valid-beside names xs [] v = tt
valid-beside names xs (k ∷ ks) v = (get_valid (place_of k names) xs v, valid-beside names xs ks v)

pub names-beside : (names : Option (List Name)) (ks : List Name) (xs : List Layout)
    → AreDistinct ks → length xs ≡ length ks
    → AreNames (option_map (λ _. ks) names) (count (layouts_from xs))
names-beside None ks xs d e = tt
names-beside (Some names) ks xs d e = (omega (arith, count-layouts_from xs), d)

pub names-apart : (k : Name) (names : Option (List Name)) (xs : List Layout)
    → AreNames names (length xs)
    → AreNames (option_map (λ ns. apart_from k ns ns) names)
    (count (layouts_from (apart_from k (row_names names (length xs)) xs)))
names-apart k None xs a = tt
names-apart k (Some names) xs a = (
  omega (arith, count-layouts_from (apart_from k names xs), length-apart k names xs a.0),
  distinct-apart k names a.1,
)

pub valid_of_row : (c : Choice) (names : Option (List Name)) (n : ℕ) (xs : List Layout)
    → n < 2 ^ 63 → IsChoice c → AreNames names (length xs) → AllReach n (layouts_from xs)
    → AllValid (layouts_from xs) → AreAmong c (row_names names (length xs))
    → IsValid (row_of_choice c names n xs)
valid_of_row (field k) names n xs s d a r v e =
    first_valid n (beside empty k (row_names names (length xs)) xs)
    (beside_reaches k names n xs a r e) (get_valid (place_of k (row_names names (length xs))) xs
    v)
valid_of_row (fields ks) names n xs s d a r v e = (
  s,
  names-beside names ks (map (λ k. beside empty k (row_names names (length xs)) xs) ks) d
      (length-map ks (λ k. beside empty k (row_names names (length xs)) xs)),
  reach-beside n (row_names names (length xs)) xs ks (length-row_names names (length xs) a) e r,
  valid-beside (row_names names (length xs)) xs ks v,
)
valid_of_row (without k) names n xs s d a r v e = (
  s,
  names-apart k names xs a,
  reach-apart n k (row_names names (length xs)) xs r,
  valid-apart k (row_names names (length xs)) xs v,
)

-- alternatives keep their number and their lengths
count-layouts_of_choice : (c : Choice) (xs : Layouts)
    → count (layouts_from (layouts_of_choice c xs)) ≡ count xs
count-layouts_of_choice c no_layouts = refl
count-layouts_of_choice c (layout x xs) = omega (arith, count-layouts_of_choice c xs)

len_of-layouts_of_choice : (c : Choice) (xs : Layouts) (k : ℕ) → AllValid xs
    → AreFound c (layout_types xs) → len_of (layouts_from (layouts_of_choice c xs)) k ≡ len_of xs k
len_of-layouts_of_choice c no_layouts k v f = refl
len_of-layouts_of_choice c (layout x xs) zero v f = len-layout_of_choice c x v.0 f.0
len_of-layouts_of_choice c (layout x xs) (suc k) v f = len_of-layouts_of_choice c xs k v.1 f.1

pub union_of_choice : (c : Choice) (t j : Column) (xs : Layouts) → AllValid xs
    → AreFound c (layout_types xs) → IsUnion t j xs
    → IsUnion t j (layouts_from (layouts_of_choice c xs))
union_of_choice c t j xs v f u =
    let n = count-layouts_of_choice c xs in
    record {
      some = rw n u.some;
      tag_kind = u.tag_kind;
      index_kind = u.index_kind;
      same_size = u.same_size;
      tags = λ i p. rw n (u.tags i p);
      places = λ i p. rw (len_of-layouts_of_choice c xs (place_at t i) v f) (u.places i p);
    }

-- ---- the alternatives, one by one

pub found_at : (c : Choice) (xs : List Layout) (i : ℕ) (y : Layout) → slice_get xs i ≡ Some y
    → AreFound c (layout_types (layouts_from xs)) → IsFound c (layout_type y)
found_at c [] i y e f = cc
found_at c (x ∷ xs) zero y e f = let g : x ≡ y = cc in subst (λ z. IsFound c (layout_type z)) g f.0
found_at c (x ∷ xs) (suc i) y e f = found_at c xs i y e f.1

pub layouts_of_choice-map : (c : Choice) (xs : List Layout)
    → layouts_of_choice c (layouts_from xs) ≡ map (layout_of_choice c) xs
layouts_of_choice-map c [] = refl
layouts_of_choice-map c (x ∷ xs) = ap (λ ys. layout_of_choice c x ∷ ys) (layouts_of_choice-map c xs)

pub weights_within : (xs : List Layout) (i : ℕ) (y : Layout) → slice_get xs i ≡ Some y
    → weights (layouts_from (take i xs)) + weight y ≤ weights (layouts_from xs)
weights_within xs i y e = omega (arith, weights-take_more xs i y e, weights-take-le xs (i + 1))

pub ruleset chosen =
    (found_at, weights-take_more, weights-take-le, weights_within, height-get, len-layout_of_choice)
