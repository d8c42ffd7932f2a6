-- The items of what is chosen of a layout are the choices of its items.
use Rattle.std.proofs.Common.{◌≡◌, ℕ, zero, suc, ◌+◌, ◌-◌, ◌*◌, ◌<◌, ◌≤◌, Bool, true, false, List}
use Rattle.std.proofs.Common.{◌∷◌, length, map, Option, Some, None, if◌then◌else◌, refl, ap, ap₂}
use Rattle.std.proofs.Common.{◌∙◌, sym, arith, ℤ, pos, negsuc}
use Rattle.std.specs.Prelude.{◌<ℤ◌}
use Rattle.std.proofs.lemmas.Int.{ints}
use Rattle.std.proofs.lemmas.Nat.{row_fits}
use Rattle.awk_types.specs.DataType.{Name, row_type}
use Rattle.awk_types.specs.Value.{Value, null, list, row, alt, value_list, values_from}
use Rattle.awk_types.specs.Simple.{in_list, in_option, value_by}
use Rattle.awk_types.proofs.Trees.{values_from-list, value_list-from}
use Rattle.awk_lanes.specs.Places.{at, place_at, option_place}
use Rattle.awk_layout.specs.Layout.{Layout, Layouts, layout_list, layouts_from, empty, flat}
use Rattle.awk_layout.specs.Layout.{regular, lists, offset_lists, rows, indexed, optional}
use Rattle.awk_layout.specs.Layout.{byte_masked, bit_masked, unmasked, union, no_layouts, layout}
use Rattle.awk_layout.specs.Valid.{len, len_of, IsValid, AllValid}
use Rattle.awk_layout.specs.Item.{item, items_across, item_of, run, at_option, byte_shows}
use Rattle.awk_layout.specs.Item.{bit_shows}
use Rattle.awk_types.proofs.NullLaws.{in_option-same}
use Rattle.awk_lanes.proofs.PlaceLaws.{span-below}
use Rattle.awk_layout.specs.Typing.{layout_type, layout_types}
use Rattle.awk_view.specs.Choice.{Choice, field, fields, without, row_names, beside, apart_from}
use Rattle.awk_view.specs.Choice.{in_row_of, value_of_choice, values_of_choice}
use Rattle.awk_view.specs.Layouts.{row_of_choice, layout_of_choice, layouts_of_choice}
use Rattle.awk_view.proofs.FirstItems.{item-first_items}
use Rattle.awk_view.proofs.ChoiceTypes.{beside-map, apart_from-map, each_beside-map}
use Rattle.awk_view.proofs.ChoiceValues.{value_of_choice-null}
use Rattle.awk_view.proofs.ChoiceLayouts.{layouts_from-list, items_across_from, count-layout_types}

-- ---- rows

values_across : (xs : List Layout) (i : ℕ)
    → value_list (items_across (layouts_from xs) i) ≡ map (λ x. item x i) xs
values_across xs i =
    ap value_list (items_across_from xs i) ∙ value_list-from (map (λ x. item x i) xs)

item_of_row : (c : Choice) (names : Option (List Name)) (n : ℕ) (xs : List Layout) (i : ℕ) → i < n
    → item (row_of_choice c names n xs) i ≡ in_row_of c (row_names names (length xs))
    (row (items_across (layouts_from xs) i))
item_of_row (field k) names n xs i h =
    item-first_items n (beside empty k (row_names names (length xs)) xs) i h
    ∙ sym (ap (beside null k (row_names names (length xs))) (values_across xs i) ∙ beside-map
    (λ x. item x i) empty k (row_names names (length xs)) xs)
item_of_row (fields ks) names n xs i h =
    ap row (items_across_from (map (λ k. beside empty k (row_names names (length xs)) xs) ks) i
    ∙ ap values_from (sym (ap (λ vs. map (λ k. beside null k (row_names names (length xs)) vs) ks)
    (values_across xs i) ∙ each_beside-map (λ x. item x i) empty ks
    (row_names names (length xs)) xs)))
item_of_row (without k) names n xs i h =
    ap row (items_across_from (apart_from k (row_names names (length xs)) xs) i
    ∙ ap values_from (sym (ap (apart_from k (row_names names (length xs))) (values_across xs i) ∙
    apart_from-map (λ x. item x i) k (row_names names (length xs)) xs)))

row_chosen : (c : Choice) (names : Option (List Name)) (xs : Layouts) (v : Value)
    → in_row_of c (row_names names (length (layout_list xs))) v ≡ value_of_choice c
    (row_type names (layout_types xs)) v
row_chosen c None xs v = ap (λ n. in_row_of c (row_names None n) v) (sym (count-layout_types xs))
row_chosen c (Some names) xs v = refl

-- ---- lists

run_chosen : (f : Value → Value) (g h : ℕ → Value) (first n : ℕ)
    → ((j : ℕ) → first ≤ j → j < first + n → g j ≡ f (h j))
    → value_list (run g first n) ≡ map f (value_list (run h first n))
run_chosen f g h first zero each = refl
run_chosen f g h first (suc n) each =
    ap₂ (λ v vs. v ∷ vs) (each first (omega arith) (omega arith))
    (run_chosen f g h (suc first) n (λ j a b. each j (omega arith) (omega arith)))

list_chosen : (f : Value → Value) (g h : ℕ → Value) (first n : ℕ)
    → ((j : ℕ) → first ≤ j → j < first + n → g j ≡ f (h j))
    → list (run g first n) ≡ in_list f (list (run h first n))
list_chosen f g h first n each =
    ap list (sym (values_from-list (run g first n)) ∙ ap values_from
    (run_chosen f g h first n each))

-- ---- options

option_chosen : (f : Value → Value) (g h : ℕ → Value) (n : ℕ) (z : ℤ) → f null ≡ null → z <ℤ pos n
    → ((j : ℕ) → j < n → g j ≡ f (h j))
    → at_option (option_place z) g ≡ in_option f (at_option (option_place z) h)
option_chosen f g h n (pos k) e l each =
    each k (omega (arith, ints)) ∙ sym (in_option-same f e (h k))
option_chosen f g h n (negsuc k) e l each = refl

mask_chosen : (f : Value → Value) (b : Bool) (v w : Value) → f null ≡ null → v ≡ f w
    → (if b then v else null) ≡ in_option f (if b then w else null)
mask_chosen f true v w e h = h ∙ sym (in_option-same f e w)
mask_chosen f false v w e h = refl

-- ---- all of them

mutual
  pub item-layout_of_choice : (c : Choice) (x : Layout) → IsValid x → (i : ℕ) → i < len x
      → item (layout_of_choice c x) i ≡ value_of_choice c (layout_type x) (item x i)
  item-layout_of_choice c empty v i p = absurd (omega arith)
  item-layout_of_choice c (flat l) v i p = refl
  item-layout_of_choice c (regular size n x) v i p =
      list_chosen (value_of_choice c (layout_type x)) (item (layout_of_choice c x)) (item x)
      (i * size) size
      (λ j a b. item-layout_of_choice c x v.2 j
      (omega (arith, v.1, row_fits i size n size p (omega arith))))
  item-layout_of_choice c (lists s t x) v i p =
      list_chosen (value_of_choice c (layout_type x)) (item (layout_of_choice c x)) (item x)
      (place_at s i) (place_at t i - place_at s i)
      (λ j a b. item-layout_of_choice c x v.2 j
      (span-below (len x) (at s i) (at t i) j (v.1.ordered i p) a b))
  item-layout_of_choice c (offset_lists o x) v i p =
      list_chosen (value_of_choice c (layout_type x)) (item (layout_of_choice c x)) (item x)
      (place_at o i) (place_at o (i + 1) - place_at o i)
      (λ j a b. item-layout_of_choice c x v.2 j
      (span-below (len x) (at o i) (at o (i + 1)) j (v.1.ordered i (omega arith)) a b))
  item-layout_of_choice c (rows names n xs) v i p =
      item_of_row c names n (layout_list xs) i p
      ∙ ap (λ ys. in_row_of c (row_names names (length (layout_list xs))) (row (items_across ys i)))
      (layouts_from-list xs)
      ∙ row_chosen c names xs (row (items_across xs i))
  item-layout_of_choice c (indexed j x) v i p =
      item-layout_of_choice c x v.2 (place_at j i) ((v.1.places i p).1)
  item-layout_of_choice c (optional j x) v i p =
      option_chosen (value_of_choice c (layout_type x)) (item (layout_of_choice c x)) (item x)
      (len x) (at j i) (value_of_choice-null c (layout_type x)) (v.1.below i p)
      (item-layout_of_choice c x v.2)
  item-layout_of_choice c (byte_masked m b x) v i p =
      mask_chosen (value_of_choice c (layout_type x)) (byte_shows m b i) _ (item x i)
      (value_of_choice-null c (layout_type x))
      (item-layout_of_choice c x v.2 i (omega (arith, v.1.reach)))
  item-layout_of_choice c (bit_masked m b x) v i p =
      mask_chosen (value_of_choice c (layout_type x)) (bit_shows m b i) _ (item x i)
      (value_of_choice-null c (layout_type x))
      (item-layout_of_choice c x v.2 i (omega (arith, v.1)))
  item-layout_of_choice c (unmasked n x) v i p =
      item-layout_of_choice c x v.2 i (omega (arith, v.1))
      ∙ sym (in_option-same (value_of_choice c (layout_type x))
      (value_of_choice-null c (layout_type x)) (item x i))
  item-layout_of_choice c (union t j xs) v i p =
      ap (alt (place_at t i)) (alternative-layouts_of_choice c xs v.2 (place_at t i) (place_at j i)
      ((v.1.places i p).1))

  pub alternative-layouts_of_choice : (c : Choice) (xs : Layouts) → AllValid xs → (k i : ℕ)
      → i < len_of xs k
      → item_of (layouts_from (layouts_of_choice c xs)) k i ≡ value_by
      (values_of_choice c (layout_types xs)) k (item_of xs k i)
  alternative-layouts_of_choice c no_layouts v k i p = refl
  alternative-layouts_of_choice c (layout x xs) v zero i p = item-layout_of_choice c x v.0 i p
  alternative-layouts_of_choice c (layout x xs) v (suc k) i p =
      alternative-layouts_of_choice c xs v.1 k i p
