-- The array of a low node, and data.
use Rattle.std.proofs.Common.{◌≡◌, ℕ, ◌<◌, ◌≤◌, map, ap, sym, subst, ◌∙◌, arith}
use Rattle.std.specs.List.{range_with_len}
use Rattle.awk_base.proofs.Ranges.{map-same}
use Rattle.awk_types.specs.DataType.{DataType}
use Rattle.awk_types.specs.Simple.{simple, simple_value}
use Rattle.awk_types.proofs.SimpleLaws.{simple_stays, value_stays}
use Rattle.awk_layout.specs.Array.{IsArrayType, IsTypeOf}
use Rattle.awk_layout.specs.Item.{item}
use Rattle.awk_layout.specs.Layout.{Layout, height}
use Rattle.awk_layout.specs.Numbered.{IsNumbered}
use Rattle.awk_layout.specs.Typing.{array_type}
use Rattle.awk_layout.specs.Valid.{len, IsValid}
use Rattle.awk_layout.proofs.TypedItems.{item_has}
use Rattle.awk_gather.specs.Arrays.{array_item}
use Rattle.awk_columns.proofs.ArrayLaws.{array_items-at}
use Rattle.awk_heights.specs.Low.{height_limit, IsLowNode, IsLowArray}

-- ---- the array of a node

module _ (x y : Layout) (lawful : IsArrayType (array_type x)) (m : IsLowNode x y) where
  made_type : array_type y ≡ array_type x
  made_type = ap simple m.typ ∙ simple_stays (array_type x) lawful.is_simple

  pub made_typed : (t : DataType) → t ≡ array_type x → IsTypeOf t y
  made_typed t e = record {
    typ = e ∙ sym made_type;
    lawful = subst IsArrayType (sym e) lawful;
  }

  pub made_array : IsValid y → IsNumbered y → IsLowArray x y
  made_array v n = record {
    size = m.size;
    typ = made_type;
    items =
        array_items-at y
        ∙ ap (λ k. map (array_item y) (range_with_len 0 k)) m.size
        ∙ map-same (array_item y) (array_item x) 0 (len x)
        (λ i _ h. at_place i (omega (arith, h)))
        ∙ sym (array_items-at x);
    low = subst (λ t. height y ≤ height_limit t) (sym made_type) m.low;
  }
    where
      at_place : (i : ℕ) → i < len x → array_item y i ≡ array_item x i
      at_place i h =
          ap (λ t. simple_value t (item y i)) m.typ
          ∙ value_stays (array_type x) (item y i) lawful.is_simple
          (rw (← m.typ) (item_has y i v n (omega (arith, h, m.size))))
          ∙ m.items i h
