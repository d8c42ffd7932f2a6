-- The items of an array as a list.
use Rattle.std.proofs.Common.{◌≡◌, ℕ, ◌<◌, length, get_or, arith, ap, ◌∙◌, map, [], ◌∷◌}
use Rattle.std.proofs.lemmas.List.{get_or-map, length-map}
use Rattle.std.proofs.lemmas.List.FromFn.{length-map-range_with_len, get_or-map-range_with_len}
use Rattle.std.specs.List.{range_with_len}
use Rattle.awk_types.specs.Value.{null}
use Rattle.awk_types.specs.Simple.{simple_value}
use Rattle.awk_layout.specs.Layout.{Layout}
use Rattle.awk_layout.specs.Valid.{len}
use Rattle.awk_layout.specs.Item.{item, items}
use Rattle.awk_layout.specs.Typing.{layout_type, array_items}
use Rattle.awk_layout.specs.Datum.{first_item}

pub length-array_items : (x : Layout) → length (array_items x) ≡ len x
length-array_items x =
    length-map (items x) (simple_value (layout_type x)) ∙ length-map-range_with_len (item x) 0
    (len x)

pub get_or-array_items : (x : Layout) (j : ℕ) → j < len x
    → get_or (array_items x) j null ≡ simple_value (layout_type x) (item x j)
get_or-array_items x j h =
    get_or-map (simple_value (layout_type x)) (items x) j null null
    (omega (arith, length-map-range_with_len (item x) 0 (len x)))
    ∙ ap (simple_value (layout_type x)) (get_or-map-range_with_len (item x) 0 (len x) j j null h
    (omega arith))

-- an array of one item has its first alone
pub array_items-one : (x : Layout) → len x ≡ 1 → array_items x ≡ first_item x ∷ []
array_items-one x single =
    ap (λ n. map (simple_value (layout_type x)) (map (item x) (range_with_len 0 n))) single
