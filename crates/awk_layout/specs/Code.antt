-- Layouts as trees of numbers, and back: a type that contains itself needs such a code.
use Rattle.std.specs.Prelude.{◌≡◌, suc, zero, [], List, ℤ, Option, Bool, refl}
use Rattle.std.proofs.Common.{ap, ◌∙◌}
use Rattle.std.specs.Coded.{Coded}
use base.Stored.{Gv, gnil, gnum, gcons}
use Rattle.awk_types.specs.DataType.{Name}
use Rattle.awk_types.specs.Trees.{Tree, coded_tree, list_tree, option_tree, number_from, int_tree}
use Rattle.awk_types.specs.Trees.{bool_to, bool_from, bool_same, bool_tree}
use Rattle.awk_types.specs.TypeCodes.{primitive_to, primitive_from, primitive_same, names_tree}
use Rattle.awk_lanes.specs.declared.kind.Kind.{Kind}
use Rattle.awk_lanes.specs.declared.kind.Kind.TheVariants.{Bool as Truths}
use Rattle.awk_lanes.specs.Column.{Column}
use Rattle.awk_layout.specs.Layout.{Layout, Layouts, empty, flat, regular, lists, offset_lists}
use Rattle.awk_layout.specs.Layout.{rows, indexed, optional, byte_masked, bit_masked, unmasked}
use Rattle.awk_layout.specs.Layout.{union, no_layouts, layout}
use Rattle.awk_layout.specs.Kinds.{primitive_of, kind_of, kind_of-primitive_of}

-- a kind by its primitive
abbrev pub kind_to : Kind → Gv
kind_to k = primitive_to (primitive_of k)

abbrev pub kind_from : Gv → Kind
kind_from g = kind_of (primitive_from g)

pub kind_same : (k : Kind) → kind_from (kind_to k) ≡ k
kind_same k = ap kind_of (primitive_same (primitive_of k)) ∙ kind_of-primitive_of k

abbrev pub numbers_tree : Tree (List ℤ)
numbers_tree = list_tree int_tree

abbrev pub column_to : Column → Gv
column_to c = gcons (kind_to c.kind) (numbers_tree.to c.items)

abbrev pub column_from : Gv → Column
column_from (gcons k zs) = record { kind = kind_from k; items = numbers_tree.from zs }
column_from _ = record { kind = Truths; items = [] }

pub column_same : (c : Column) → column_from (column_to c) ≡ c
column_same c = λ i. record { kind = kind_same c.kind i; items = numbers_tree.same c.items i }

abbrev pub bits_tree : Tree (List Bool)
bits_tree = list_tree bool_tree

-- names, where there are any
abbrev pub field_names_tree : Tree (Option (List Name))
field_names_tree = option_tree names_tree

abbrev mutual
  pub layout_to : Layout → Gv
  layout_to empty = gnil
  layout_to (flat c) = gcons (gnum 0) (column_to c)
  layout_to (regular size n x) = gcons (gnum 1) (gcons (gnum size) (gcons (gnum n) (layout_to x)))
  layout_to (lists s t x) = gcons (gnum 2) (gcons (column_to s) (gcons (column_to t) (layout_to x)))
  layout_to (offset_lists o x) = gcons (gnum 3) (gcons (column_to o) (layout_to x))
  layout_to (rows names n xs) =
      gcons (gnum 4) (gcons (field_names_tree.to names) (gcons (gnum n) (layouts_to xs)))
  layout_to (indexed j x) = gcons (gnum 5) (gcons (column_to j) (layout_to x))
  layout_to (optional j x) = gcons (gnum 6) (gcons (column_to j) (layout_to x))
  layout_to (byte_masked m v x) =
      gcons (gnum 7) (gcons (column_to m) (gcons (bool_to v) (layout_to x)))
  layout_to (bit_masked m v x) =
      gcons (gnum 8) (gcons (bits_tree.to m) (gcons (bool_to v) (layout_to x)))
  layout_to (unmasked n x) = gcons (gnum 9) (gcons (gnum n) (layout_to x))
  layout_to (union t j xs) =
      gcons (gnum 10) (gcons (column_to t) (gcons (column_to j) (layouts_to xs)))

  pub layouts_to : Layouts → Gv
  layouts_to no_layouts = gnil
  layouts_to (layout x xs) = gcons (layout_to x) (layouts_to xs)

abbrev mutual
  pub layout_from : Gv → Layout
  layout_from (gcons (gnum zero) c) = flat (column_from c)
  layout_from (gcons (gnum (suc zero)) (gcons size (gcons n x))) =
      regular (number_from size) (number_from n) (layout_from x)
  layout_from (gcons (gnum (suc (suc zero))) (gcons s (gcons t x))) =
      lists (column_from s) (column_from t) (layout_from x)
  layout_from (gcons (gnum (suc (suc (suc zero)))) (gcons o x)) =
      offset_lists (column_from o) (layout_from x)
  layout_from (gcons (gnum (suc (suc (suc (suc zero))))) (gcons names (gcons n xs))) =
      rows (field_names_tree.from names) (number_from n) (layouts_from xs)
  layout_from (gcons (gnum (suc (suc (suc (suc (suc zero)))))) (gcons j x)) =
      indexed (column_from j) (layout_from x)
  layout_from (gcons (gnum (suc (suc (suc (suc (suc (suc zero))))))) (gcons j x)) =
      optional (column_from j) (layout_from x)
  layout_from (gcons (gnum (suc (suc (suc (suc (suc (suc (suc zero)))))))) (gcons m (gcons v x))) =
      byte_masked (column_from m) (bool_from v) (layout_from x)
  layout_from
      (gcons (gnum (suc (suc (suc (suc (suc (suc (suc (suc zero))))))))) (gcons m (gcons v x))) =
      bit_masked (bits_tree.from m) (bool_from v) (layout_from x)
  layout_from
      (gcons (gnum (suc (suc (suc (suc (suc (suc (suc (suc (suc zero)))))))))) (gcons n x)) =
      unmasked (number_from n) (layout_from x)
  layout_from
      (gcons (gnum (suc (suc (suc (suc (suc (suc (suc (suc (suc (suc zero)))))))))))
      (gcons t (gcons j xs))) = union (column_from t) (column_from j) (layouts_from xs)
  layout_from _ = empty

  pub layouts_from : Gv → Layouts
  layouts_from (gcons x xs) = layout (layout_from x) (layouts_from xs)
  layouts_from _ = no_layouts

mutual
  pub layout_same : (x : Layout) → layout_from (layout_to x) ≡ x
  layout_same empty = refl
  layout_same (flat c) = λ i. flat (column_same c i)
  layout_same (regular size n x) = λ i. regular size n (layout_same x i)
  layout_same (lists s t x) = λ i. lists (column_same s i) (column_same t i) (layout_same x i)
  layout_same (offset_lists o x) = λ i. offset_lists (column_same o i) (layout_same x i)
  layout_same (rows names n xs) = λ i. rows (field_names_tree.same names i) n (layouts_same xs i)
  layout_same (indexed j x) = λ i. indexed (column_same j i) (layout_same x i)
  layout_same (optional j x) = λ i. optional (column_same j i) (layout_same x i)
  layout_same (byte_masked m v x) =
      λ i. byte_masked (column_same m i) (bool_same v i) (layout_same x i)
  layout_same (bit_masked m v x) =
      λ i. bit_masked (bits_tree.same m i) (bool_same v i) (layout_same x i)
  layout_same (unmasked n x) = λ i. unmasked n (layout_same x i)
  layout_same (union t j xs) = λ i. union (column_same t i) (column_same j i) (layouts_same xs i)

  pub layouts_same : (xs : Layouts) → layouts_from (layouts_to xs) ≡ xs
  layouts_same no_layouts = refl
  layouts_same (layout x xs) = λ i. layout (layout_same x i) (layouts_same xs i)

abbrev pub layout_tree : Tree Layout
layout_tree = record { to = layout_to; from = layout_from; same = layout_same }

abbrev pub coded_layout : Coded Layout
coded_layout = coded_tree layout_tree
