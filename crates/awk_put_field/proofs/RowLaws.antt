-- Records that are rows of columns, with a column as the field of a name.
use Rattle.std.proofs.Common.{◌≡◌, ℕ, ◌<◌, refl, ap, arith, sym, ◌∙◌}
use Rattle.std.specs.Prelude.{List, [], ◌∷◌, map, Some}
use Rattle.std.specs.List.{range_with_len}
use Rattle.std.specs.Simd.Lanes.{zip2}
use Rattle.std.proofs.lemmas.Simd.{zip2_of_maps}
use Rattle.awk_base.proofs.Ranges.{map-same}
use Rattle.awk_types.specs.DataType.{Name, rec, types_from}
use Rattle.awk_types.specs.Parts.{names_of_fields}
use Rattle.awk_types.specs.Value.{row, values_from, value_list}
use Rattle.awk_types.proofs.Trees.{type_list-from}
use Rattle.awk_layout.specs.Layout.{Layout, rows, layouts_from}
use Rattle.awk_layout.specs.Typing.{array_type, array_items}
use Rattle.awk_layout.specs.Valid.{len}
use Rattle.awk_gather.specs.Arrays.{array_item}
use Rattle.awk_open.proofs.OpenedKinds.{item-rows, type-rows}
use Rattle.awk_open.specs.Opens.{across, OpensRow}
use Rattle.awk_columns.proofs.ArrayLaws.{array_items-at}
use Rattle.awk_put_field.specs.Field.{put, named, field_type, field_value}
use Rattle.awk_put_field.proofs.PutLaws.{map-put}

values-across : (i : ℕ) (ys : List Layout)
    → value_list (across ys i) ≡ map (λ y. array_item y i) ys
values-across i [] = refl
values-across i (y ∷ ys) = ap (λ us. array_item y i ∷ us) (values-across i ys)

module _ (n : Name) (ns : List Name) (k : ℕ) (v x : Layout) (ys : List Layout)
    (o : OpensRow (Some ns) ys x) where
  -- the records with the field
  abbrev pub made : Layout
  made = rows (Some (named n ns)) k (layouts_from (put n ns v ys))

  item-made : (i : ℕ) → i < len x
      → array_item made i ≡ field_value n ns (array_item x i) (array_item v i)
  item-made i l =
      item-rows (Some (named n ns)) k (put n ns v ys) i
      ∙ ap (λ us. row (values_from us)) (map-put (λ y. array_item y i) n ns v ys)
      ∙ ap (λ us. row (values_from (put n ns (array_item v i) us))) (sym (values-across i ys))
      ∙ ap (λ w. field_value n ns w (array_item v i)) (sym (o.items i l))

  pub names-opened : names_of_fields (array_type x) ≡ ns
  names-opened = ap names_of_fields o.typ

  pub items-made : k ≡ len x → len v ≡ len x
      → array_items made
      ≡ zip2 (field_value n (names_of_fields (array_type x))) (array_items x) (array_items v)
  items-made e l =
      array_items-at made
      ∙ map-same (array_item made) (λ i. field_value n ns (array_item x i) (array_item v i)) 0 k
      (λ i p q. item-made i (omega (arith, q, e)))
      ∙ ap (λ m. map (λ i. field_value n ns (array_item x i) (array_item v i))
      (range_with_len 0 m)) e
      ∙ sym (zip2_of_maps (field_value n ns) (array_item x) (array_item v)
      (range_with_len 0 (len x)) (array_items-at x)
      (array_items-at v ∙ ap (λ m. map (array_item v) (range_with_len 0 m)) l))
      ∙ ap (λ ms. zip2 (field_value n ms) (array_items x) (array_items v)) (sym names-opened)

  pub type-made : array_type made ≡ field_type n (array_type x) (array_type v)
  type-made =
      type-rows (Some (named n ns)) k (put n ns v ys)
      ∙ ap (λ ts. rec (named n ns) (types_from ts)) (map-put array_type n ns v ys)
      ∙ sym (ap (λ t. field_type n t (array_type v)) o.typ
      ∙ ap (λ ts. rec (named n ns) (types_from (put n ns (array_type v) ts)))
      (type_list-from (map array_type ys)))
