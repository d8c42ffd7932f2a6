-- Columns of leaves and their lanes.
use Rattle.std.proofs.Common.{◌≡◌, ℕ, refl, ap, sym, ◌∙◌}
use Rattle.std.specs.Prelude.{List, [], ◌∷◌, map, length, slice_get, Some}
use Rattle.std.specs.List.{range_with_len}
use Rattle.std.proofs.lemmas.Option.{get_or_from_slice_get}
use Rattle.awk_base.proofs.Lists.{map-each}
use Rattle.awk_lanes.specs.Column.{Column}
use Rattle.awk_lanes.specs.Places.{size_of, at}
use Rattle.awk_layout.specs.Item.{leaf_value, item, items as layout_items}
use Rattle.awk_layout.specs.Layout.{Layout, empty, flat}
use Rattle.awk_layout.specs.Typing.{array_type, array_items}
use Rattle.awk_layout.specs.Valid.{len}
use Rattle.awk_layout.proofs.ArrayItems.{length-array_items}
use Rattle.awk_pointwise.specs.Sides.{lane_values}
use Rattle.awk_types.specs.DataType.{leaf}
use Rattle.awk_types.specs.Simple.{simple_value}
use Rattle.awk_types.specs.Value.{Value}
use Rattle.awk_types.specs.declared.primitive.Primitive.{Primitive}
use Rattle.awk_layout.specs.Kinds.{kind_of, primitive_of, primitive_of-kind_of}
use Rattle.awk_pointwise.proofs.BlockLaws.{length-lane}
use Rattle.awk_pointwise.proofs.SideLaws.{lane_values-at}
use Rattle.awk_ends.specs.Columns.{column_at}

pub lane_sized : (y : Layout) (c : Column) (n : ℕ) → array_items y ≡ lane_values c → len y ≡ n
    → size_of c ≡ n
lane_sized y c n e h =
    sym (length-lane c) ∙ sym (ap length e) ∙ length-array_items y ∙ h

pub column_is : (ys : List Layout) (k : ℕ) (y : Layout) → slice_get ys k ≡ Some y
    → column_at ys k ≡ y
column_is ys k y e = get_or_from_slice_get ys k y empty e

-- ---- a lane as an array

leaves-same : (p : Primitive) (vs : List Value) → map (simple_value (leaf p)) vs ≡ vs
leaves-same p [] = refl
leaves-same p (v ∷ vs) = ap (λ ws. v ∷ ws) (leaves-same p vs)

pub flat-items : (c : Column) → array_items (flat c) ≡ lane_values c
flat-items c =
    leaves-same (primitive_of c.kind) (layout_items (flat c))
    ∙ map-each (item (flat c)) (λ i. leaf_value c.kind (at c i)) (range_with_len 0 (size_of c))
    (λ i. refl)
    ∙ lane_values-at c

pub flat-type : (c : Column) (p : Primitive) → c.kind ≡ kind_of p → array_type (flat c) ≡ leaf p
flat-type c p e = ap (λ k. leaf (primitive_of k)) e ∙ ap leaf (primitive_of-kind_of p)
