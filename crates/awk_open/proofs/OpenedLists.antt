-- The lists of an array that is opened into them.
use Rattle.std.specs.Prelude.{◌≡◌, ℕ, List, [], ◌∷◌, ◌++◌, map, Option, refl}
use Rattle.std.proofs.Common.{arith, ap, sym, ◌∙◌}
use Rattle.std.proofs.lemmas.List.Folds.{flat_map-map}
use Rattle.std.proofs.lemmas.List.Concat.{flat_map_single}
use Rattle.std.specs.List.{range_with_len, flat_map}
use Rattle.awk_base.proofs.Ranges.{map-same}
use Rattle.awk_types.specs.Value.{list, value_list, values_from}
use Rattle.awk_types.proofs.Trees.{values_from-list, value_list-from}
use Rattle.awk_lanes.specs.Column.{Column}
use Rattle.awk_layout.specs.Layout.{Layout}
use Rattle.awk_layout.specs.Valid.{len}
use Rattle.awk_layout.specs.Typing.{array_items}
use Rattle.awk_gather.specs.Arrays.{array_item}
use Rattle.awk_columns.specs.Columns.{lists_among, list_of, joined_items, list_items}
use Rattle.awk_columns.specs.Lists.{items_at}
use Rattle.awk_columns.proofs.ArrayLaws.{array_items-at}
use Rattle.awk_open.specs.Opens.{OpensLists}

lists_values : (class : Option ℕ) (s t : Column) (y x : Layout) → OpensLists class s t y x
    → array_items x ≡ map (λ i. list (values_from (items_at s t y i))) (range_with_len 0 (len x))
lists_values class s t y x o = array_items-at x
    ∙ map-same (array_item x) (λ i. list (values_from (items_at s t y i))) 0 (len x)
    (λ i p q. o.items i (omega (arith, q)) ∙ ap list (sym (values_from-list _)))

pub lists-inner : (class : Option ℕ) (s t : Column) (y x : Layout) → OpensLists class s t y x
    → joined_items (array_items x) ≡ flat_map (items_at s t y) (range_with_len 0 (len x))
lists-inner class s t y x o =
    ap joined_items (lists_values class s t y x o)
    ∙ flat_map-map list_items (λ i. list (values_from (items_at s t y i)))
    (range_with_len 0 (len x))
    ∙ flat_map_same (λ i. value_list (values_from (items_at s t y i))) (items_at s t y)
    (λ i. value_list-from (items_at s t y i)) (range_with_len 0 (len x))
  where
    flat_map_same : {X Y : Type 0} (f g : X → List Y) → ((x : X) → f x ≡ g x) → (xs : List X)
        → flat_map f xs ≡ flat_map g xs
    flat_map_same f g e [] = refl
    flat_map_same f g e (x ∷ xs) = ap (λ ys. ys ++ flat_map f xs) (e x)
        ∙ ap (λ ys. g x ++ ys) (flat_map_same f g e xs)

pub lists-among : (class : Option ℕ) (s t : Column) (y x : Layout) → OpensLists class s t y x
    → lists_among (array_items x) ≡ map (items_at s t y) (range_with_len 0 (len x))
lists-among class s t y x o =
    ap lists_among (lists_values class s t y x o)
    ∙ flat_map-map list_of (λ i. list (values_from (items_at s t y i))) (range_with_len 0 (len x))
    ∙ flat_map_single (λ i. value_list (values_from (items_at s t y i))) (range_with_len 0 (len x))
    ∙ map-same (λ i. value_list (values_from (items_at s t y i))) (items_at s t y) 0 (len x)
    (λ i p q. value_list-from (items_at s t y i))
