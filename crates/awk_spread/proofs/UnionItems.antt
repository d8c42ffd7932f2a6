-- The items of a union, as those of its alternatives.
use Rattle.std.proofs.Common.{◌≡◌, ℕ, zero, suc, ◌+◌, List, [], ◌∷◌, map, arith, refl, ap, ◌∙◌}
use Rattle.std.specs.Prelude.{Option, Some, None}
use Rattle.std.specs.List.{flat_map}
use Rattle.awk_types.specs.Value.{Value, int, truth, null, list, row, alt}
use Rattle.awk_types.specs.Simple.{simples, simple_values, value_by, value_after}
use Rattle.awk_types.specs.Simple.{alternatives_before, present_alternatives}
use Rattle.awk_types.proofs.SimpleLaws.{present_alternatives-union_of}
use Rattle.awk_lanes.specs.Column.{Column}
use Rattle.awk_lanes.specs.Places.{place_at}
use Rattle.awk_layout.specs.Layout.{Layout, union, layouts_from}
use Rattle.awk_layout.specs.Item.{item_of, at_option}
use Rattle.awk_layout.specs.Typing.{layout_types, array_type}
use Rattle.awk_gather.specs.Arrays.{array_item}
use Rattle.awk_spread.specs.Spread.{spread_at, spread_of, shift, wide}

after_after : (b : ℕ) (v : Value) → value_after 0 (value_after b v) ≡ value_after b v
after_after b (int z) = let e : 0 + b ≡ b = omega arith in ap (λ q. alt q (int z)) e
after_after b (truth t) = let e : 0 + b ≡ b = omega arith in ap (λ q. alt q (truth t)) e
after_after b null = refl
after_after b (list vs) = let e : 0 + b ≡ b = omega arith in ap (λ q. alt q (list vs)) e
after_after b (row vs) = let e : 0 + b ≡ b = omega arith in ap (λ q. alt q (row vs)) e
after_after b (alt k v) = let e : 0 + (b + k) ≡ b + k = omega arith in ap (λ q. alt q v) e

after_more : (w b : ℕ) (v : Value) → value_after (w + b) v ≡ shift w (value_after b v)
after_more w b (int z) = refl
after_more w b (truth t) = refl
after_more w b null = refl
after_more w b (list vs) = refl
after_more w b (row vs) = refl
after_more w b (alt k v) = let e : w + b + k ≡ w + (b + k) = omega arith in ap (λ q. alt q v) e

-- the value of an alternative, placed in the union
placed : (xs : List Layout) (k i : ℕ)
    → value_after (alternatives_before (simples (layout_types (layouts_from xs))) k)
    (value_by (simple_values (layout_types (layouts_from xs))) k (item_of (layouts_from xs) k i)) ≡
    spread_of xs k i
placed [] k i = refl
placed (x ∷ xs) zero i = refl
placed (x ∷ xs) (suc k) i =
    after_more (wide x) (alternatives_before (simples (layout_types (layouts_from xs))) k)
    (value_by (simple_values (layout_types (layouts_from xs))) k
    (item_of (layouts_from xs) k i))
    ∙ ap (shift (wide x)) (placed xs k i)

pub item-union : (t j : Column) (xs : List Layout) (i : ℕ)
    → array_item (union t j (layouts_from xs)) i ≡ spread_of xs (place_at t i) (place_at j i)
item-union t j xs i = placed xs (place_at t i) (place_at j i)

pub spread-union : (t j : Column) (xs : List Layout) (i : ℕ)
    → spread_at (union t j (layouts_from xs)) i ≡ spread_of xs (place_at t i) (place_at j i)
spread-union t j xs i =
    after_after (alternatives_before (simples (layout_types (layouts_from xs))) (place_at t i))
    (value_by (simple_values (layout_types (layouts_from xs))) (place_at t i)
    (item_of (layouts_from xs) (place_at t i) (place_at j i)))
    ∙ placed xs (place_at t i) (place_at j i)

-- what a union gives to a union
pub simples-types : (xs : List Layout)
    → simples (layout_types (layouts_from xs)) ≡ map array_type xs
simples-types [] = refl
simples-types (x ∷ xs) = ap (λ ts. array_type x ∷ ts) (simples-types xs)

pub alternatives-union : (t j : Column) (xs : List Layout)
    → present_alternatives (array_type (union t j (layouts_from xs))) ≡ flat_map
    present_alternatives (map array_type xs)
alternatives-union t j xs =
    present_alternatives-union_of (simples (layout_types (layouts_from xs))) ∙ ap
    (flat_map present_alternatives) (simples-types xs)

-- null goes through
pub after_option : (o : Option ℕ) (f : ℕ → Value)
    → at_option o (λ i. value_after 0 (f i)) ≡ value_after 0 (at_option o f)
after_option None f = refl
after_option (Some k) f = refl
