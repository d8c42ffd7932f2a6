-- What is chosen of a layout: its type, its items, its length and its nodes, and that it is valid.
use Rattle.std.proofs.Common.{◌≡◌, ℕ, zero, suc, ◌<◌, ◌≤◌, Bool, true, false, List, [], ◌∷◌}
use Rattle.std.proofs.Common.{length, map, decimal, Option, Some, None, get_or, if◌then◌else◌, refl}
use Rattle.std.proofs.Common.{ap, ap₂, ◌∙◌, sym, subst, arith}
use Rattle.std.proofs.lemmas.List.{length-map}
use Rattle.std.specs.Option.{option_map}
use Rattle.std.proofs.lemmas.List.FromFn.{length-map-range_with_len}
use Rattle.awk_base.proofs.Truths.{or_later}
use Rattle.awk_types.specs.DataType.{Name, unknown, var, reg, opt, uni, type, types_from, type_list}
use Rattle.awk_types.specs.Value.{value, values_from}
use Rattle.awk_types.specs.Names.{same_name, is_among, place_of}
use Rattle.awk_types.specs.IsType.{count as type_count}
use Rattle.awk_layout.specs.Layout.{Layout, Layouts, layout_list, layouts_from, count, weight}
use Rattle.awk_layout.specs.Layout.{weights, height, heights, empty, flat, regular, lists}
use Rattle.awk_layout.specs.Layout.{offset_lists, rows, indexed, optional, byte_masked, bit_masked}
use Rattle.awk_layout.specs.Layout.{unmasked, union, no_layouts, layout}
use Rattle.awk_layout.specs.Valid.{len, IsValid, AllValid, AllReach, AreNames}
use Rattle.awk_layout.specs.Item.{item, items_across}
use Rattle.awk_types.specs.DataType.{row_type}
use Rattle.awk_layout.specs.Typing.{layout_type, layout_types}
use Rattle.awk_layout.proofs.ContentTypes.{layout_types-layouts_from}
use Rattle.awk_view.specs.Choice.{Choice, field, fields, without, row_names, beside}
use Rattle.awk_layout.proofs.LayoutLists.{length-layout_list}
use Rattle.awk_view.specs.Choice.{apart_from, row_type_of, type_of_choice, types_of_choice}
use Rattle.awk_view.specs.Layouts.{AreAmong, IsFound, row_of_choice, layout_of_choice}
use Rattle.awk_view.specs.Layouts.{layouts_of_choice}
use Rattle.awk_view.proofs.FirstItems.{len-first_items, type-first_items}
use Rattle.awk_view.proofs.ChoiceTypes.{beside-map, apart_from-map, each_beside-map}

-- ---- layouts as lists

pub layouts_from-list : (xs : Layouts) → layouts_from (layout_list xs) ≡ xs
layouts_from-list no_layouts = refl
layouts_from-list (layout x xs) = ap (layout x) (layouts_from-list xs)

layout_types_list : (xs : Layouts) → type_list (layout_types xs) ≡ map layout_type (layout_list xs)
layout_types_list no_layouts = refl
layout_types_list (layout x xs) = ap (λ ts. layout_type x ∷ ts) (layout_types_list xs)

pub count-layout_types : (xs : Layouts) → type_count (layout_types xs) ≡ length (layout_list xs)
count-layout_types xs = ap length (layout_types_list xs) ∙ length-map (layout_list xs) layout_type

pub items_across_from : (xs : List Layout) (i : ℕ)
    → items_across (layouts_from xs) i ≡ values_from (map (λ x. item x i) xs)
items_across_from [] i = refl
items_across_from (x ∷ xs) i = ap (value (item x i)) (items_across_from xs i)

-- ---- the type

type_of_rows : (names : Option (List Name)) (n : ℕ) (xs : List Layout)
    → layout_type (rows names n (layouts_from xs)) ≡ row_type names
    (types_from (map layout_type xs))
type_of_rows names n xs = ap (row_type names) (sym (layout_types-layouts_from xs))

type_of_row : (c : Choice) (names : Option (List Name)) (n : ℕ) (xs : List Layout)
    → layout_type (row_of_choice c names n xs) ≡ row_type_of c names (map layout_type xs)
type_of_row (field k) names n xs =
    type-first_items n (beside empty k (row_names names (length xs)) xs)
    ∙ sym (ap (λ m. beside unknown k (row_names names m) (map layout_type xs))
    (length-map xs layout_type)
    ∙ beside-map layout_type empty k (row_names names (length xs)) xs)
type_of_row (fields ks) names n xs =
    type_of_rows (option_map (λ _. ks) names) n
    (map (λ k. beside empty k (row_names names (length xs)) xs) ks)
    ∙ sym (ap (λ m. row_type (option_map (λ _. ks) names)
    (types_from (map (λ k. beside unknown k (row_names names m) (map layout_type xs)) ks)))
    (length-map xs layout_type)
    ∙ ap (λ us. row_type (option_map (λ _. ks) names) (types_from us))
    (each_beside-map layout_type empty ks (row_names names (length xs)) xs))
type_of_row (without k) names n xs =
    type_of_rows (option_map (λ ns. apart_from k ns ns) names) n
    (apart_from k (row_names names (length xs)) xs)
    ∙ sym (ap (λ m. row_type (option_map (λ ns. apart_from k ns ns) names)
    (types_from (apart_from k (row_names names m) (map layout_type xs))))
    (length-map xs layout_type)
    ∙ ap (λ us. row_type (option_map (λ ns. apart_from k ns ns) names) (types_from us))
    (apart_from-map layout_type k (row_names names (length xs)) xs))

row_type_chosen : (c : Choice) (names : Option (List Name)) (xs : Layouts)
    → row_type_of c names (map layout_type (layout_list xs)) ≡ type_of_choice c
    (row_type names (layout_types xs))
row_type_chosen c None xs = ap (row_type_of c None) (sym (layout_types_list xs))
row_type_chosen c (Some names) xs = ap (row_type_of c (Some names)) (sym (layout_types_list xs))

mutual
  pub type-layout_of_choice : (c : Choice) (x : Layout)
      → layout_type (layout_of_choice c x) ≡ type_of_choice c (layout_type x)
  type-layout_of_choice c empty = refl
  type-layout_of_choice c (flat l) = refl
  type-layout_of_choice c (regular size n x) = ap (reg size) (type-layout_of_choice c x)
  type-layout_of_choice c (lists s t x) = ap var (type-layout_of_choice c x)
  type-layout_of_choice c (offset_lists o x) = ap var (type-layout_of_choice c x)
  type-layout_of_choice c (rows names n xs) =
      type_of_row c names n (layout_list xs) ∙ row_type_chosen c names xs
  type-layout_of_choice c (indexed j x) = type-layout_of_choice c x
  type-layout_of_choice c (optional j x) = ap opt (type-layout_of_choice c x)
  type-layout_of_choice c (byte_masked m v x) = ap opt (type-layout_of_choice c x)
  type-layout_of_choice c (bit_masked m v x) = ap opt (type-layout_of_choice c x)
  type-layout_of_choice c (unmasked n x) = ap opt (type-layout_of_choice c x)
  type-layout_of_choice c (union t j xs) = ap uni (types-layouts_of_choice c xs)

  pub types-layouts_of_choice : (c : Choice) (xs : Layouts)
      → layout_types (layouts_from (layouts_of_choice c xs)) ≡ types_from
      (types_of_choice c (layout_types xs))
  types-layouts_of_choice c no_layouts = refl
  types-layouts_of_choice c (layout x xs) =
      ap₂ type (type-layout_of_choice c x) (types-layouts_of_choice c xs)

-- ---- what stands beside a name that is among the names

first_or_later : (P : ℕ → Type 0) (b : Bool) (p : ℕ) → P 0 → (b ≡ false → P (suc p))
    → P (if b then 0 else suc p)
first_or_later P true p h k = h
first_or_later P false p h k = k refl

pub place_within : (k : Name) (names : List Name) → is_among k names ≡ true
    → place_of k names < length names
place_within k [] e = cc
place_within k (m ∷ ms) e =
    first_or_later (λ p. p < suc (length ms)) (same_name m k) (place_of k ms) (omega arith)
    (λ f. let l = place_within k ms (or_later (same_name m k) _ e f) in omega arith)

pub get_reaches : (n p : ℕ) (xs : List Layout) → p < length xs → AllReach n (layouts_from xs)
    → n ≤ len (get_or xs p empty)
get_reaches n p [] h r = absurd (omega arith)
get_reaches n zero (x ∷ xs) h r = r.0
get_reaches n (suc p) (x ∷ xs) h r = get_reaches n p xs (omega arith) r.1

pub get_valid : (p : ℕ) (xs : List Layout) → AllValid (layouts_from xs)
    → IsValid (get_or xs p empty)
get_valid p [] v = tt
get_valid zero (x ∷ xs) v = v.0
get_valid (suc p) (x ∷ xs) v = get_valid p xs v.1

pub get_weight : (p : ℕ) (xs : List Layout) → p < length xs
    → weight (get_or xs p empty) ≤ weights (layouts_from xs)
get_weight p [] h = absurd (omega arith)
get_weight zero (x ∷ xs) h = omega arith
get_weight (suc p) (x ∷ xs) h = omega (arith, get_weight p xs (omega arith))

pub get_height : (p : ℕ) (xs : List Layout) → p < length xs
    → height (get_or xs p empty) ≤ heights (layouts_from xs)
get_height p [] h = absurd (omega arith)
get_height zero (x ∷ xs) h = omega arith
get_height (suc p) (x ∷ xs) h = omega (arith, get_height p xs (omega arith))

-- a record has as many names as contents
pub length-row_names : (names : Option (List Name)) (n : ℕ) → AreNames names n
    → length (row_names names n) ≡ n
length-row_names None n h = length-map-range_with_len decimal 0 n
length-row_names (Some names) n h = h.0

pub beside_within : (k : Name) (names : Option (List Name)) (n : ℕ) → AreNames names n
    → is_among k (row_names names n) ≡ true → place_of k (row_names names n) < n
beside_within k names n h e =
    omega (arith, place_within k (row_names names n) e, length-row_names names n h)

-- ---- the length

pub rows_found : (c : Choice) (names : Option (List Name)) (xs : Layouts)
    → IsFound c (row_type names (layout_types xs))
    → AreAmong c (row_names names (length (layout_list xs)))
rows_found c None xs h = subst (λ n. AreAmong c (row_names None n)) (count-layout_types xs) h
rows_found c (Some names) xs h = h

pub rows_named : (names : Option (List Name)) (xs : Layouts) → AreNames names (count xs)
    → AreNames names (length (layout_list xs))
rows_named names xs h = subst (AreNames names) (sym (length-layout_list xs)) h

pub rows_reach : (n : ℕ) (xs : Layouts) → AllReach n xs → AllReach n (layouts_from (layout_list xs))
rows_reach n xs h = subst (AllReach n) (sym (layouts_from-list xs)) h

pub beside_reaches : (k : Name) (names : Option (List Name)) (n : ℕ) (xs : List Layout)
    → AreNames names (length xs) → AllReach n (layouts_from xs)
    → is_among k (row_names names (length xs)) ≡ true
    → n ≤ len (beside empty k (row_names names (length xs)) xs)
beside_reaches k names n xs a r e =
    get_reaches n (place_of k (row_names names (length xs))) xs
    (beside_within k names (length xs) a e) r

len_of_row : (c : Choice) (names : Option (List Name)) (n : ℕ) (xs : List Layout)
    → AreNames names (length xs) → AllReach n (layouts_from xs)
    → AreAmong c (row_names names (length xs)) → len (row_of_choice c names n xs) ≡ n
len_of_row (field k) names n xs a r e =
    len-first_items n (beside empty k (row_names names (length xs)) xs)
    (beside_reaches k names n xs a r e)
len_of_row (fields ks) names n xs a r e = refl
len_of_row (without k) names n xs a r e = refl

pub len-layout_of_choice : (c : Choice) (x : Layout) → IsValid x → IsFound c (layout_type x)
    → len (layout_of_choice c x) ≡ len x
len-layout_of_choice c empty v f = absurd f
len-layout_of_choice c (flat l) v f = absurd f
len-layout_of_choice c (regular size n x) v f = refl
len-layout_of_choice c (lists s t x) v f = refl
len-layout_of_choice c (offset_lists o x) v f = refl
len-layout_of_choice c (rows names n xs) v f =
    len_of_row c names n (layout_list xs) (rows_named names xs v.1) (rows_reach n xs v.2)
    (rows_found c names xs f)
len-layout_of_choice c (indexed j x) v f = refl
len-layout_of_choice c (optional j x) v f = refl
len-layout_of_choice c (byte_masked m b x) v f = refl
len-layout_of_choice c (bit_masked m b x) v f = refl
len-layout_of_choice c (unmasked n x) v f = refl
len-layout_of_choice c (union t j xs) v f = refl
