-- The type of a valid layout is a type.
use Rattle.std.proofs.Common.{◌≡◌, List, Option, Some, None, arith, sym, ◌∙◌, refl}
use Rattle.awk_types.specs.DataType.{Name, row_type}
use Rattle.awk_types.specs.IsType.{IsType, AreTypes, count as type_count}
use Rattle.awk_layout.specs.Layout.{Layout, Layouts, count, empty, flat, regular, lists}
use Rattle.awk_layout.specs.Layout.{offset_lists, rows, indexed, optional, byte_masked, bit_masked}
use Rattle.awk_layout.specs.Layout.{unmasked, union, no_layouts, layout}
use Rattle.awk_layout.specs.Valid.{IsValid, AllValid, AreNames}
use Rattle.awk_layout.specs.Typing.{layout_type, layout_types}

count-layout_types : (xs : Layouts) → type_count (layout_types xs) ≡ count xs
count-layout_types no_layouts = refl
count-layout_types (layout x xs) = omega (arith, count-layout_types xs)

row_is_type : (names : Option (List Name)) (xs : Layouts) → AreNames names (count xs)
    → AreTypes (layout_types xs) → IsType (row_type names (layout_types xs))
row_is_type None xs n h = h
row_is_type (Some names) xs n h = (n.1, n.0 ∙ sym (count-layout_types xs), h)

mutual
  pub layout_is_type : (x : Layout) → IsValid x → IsType (layout_type x)
  layout_is_type empty v = tt
  layout_is_type (flat c) v = tt
  layout_is_type (regular size n x) v = layout_is_type x v.2
  layout_is_type (lists s t x) v = layout_is_type x v.2
  layout_is_type (offset_lists o x) v = layout_is_type x v.2
  layout_is_type (rows names n xs) v = row_is_type names xs v.1 (layouts_are_types xs v.3)
  layout_is_type (indexed j x) v = layout_is_type x v.2
  layout_is_type (optional j x) v = layout_is_type x v.2
  layout_is_type (byte_masked m b x) v = layout_is_type x v.2
  layout_is_type (bit_masked m b x) v = layout_is_type x v.2
  layout_is_type (unmasked n x) v = layout_is_type x v.2
  layout_is_type (union t j xs) v =
      (omega (arith, count-layout_types xs, v.1.some), layouts_are_types xs v.2)

  pub layouts_are_types : (xs : Layouts) → AllValid xs → AreTypes (layout_types xs)
  layouts_are_types no_layouts v = tt
  layouts_are_types (layout x xs) v = (layout_is_type x v.0, layouts_are_types xs v.1)
