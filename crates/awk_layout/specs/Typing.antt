-- The type of a layout, and the simple type and items of an array of it.
use Rattle.std.specs.Prelude.{List, map}
use Rattle.awk_types.specs.DataType.{DataType, DataTypes, unknown, leaf, var, reg, opt, uni}
use Rattle.awk_types.specs.DataType.{row_type, no_types, type}
use Rattle.awk_types.specs.Value.{Value}
use Rattle.awk_types.specs.Datum.{Datum, arr}
use Rattle.awk_types.specs.Simple.{simple, simple_value}
use Rattle.awk_layout.specs.Kinds.{primitive_of}
use Rattle.awk_layout.specs.Layout.{Layout, Layouts, empty, flat, regular, lists, offset_lists}
use Rattle.awk_layout.specs.Layout.{rows, indexed, optional, byte_masked, bit_masked, unmasked}
use Rattle.awk_layout.specs.Layout.{union, no_layouts, layout}
use Rattle.awk_layout.specs.Item.{items}

abbrev mutual
  pub layout_type : Layout → DataType
  layout_type empty = unknown
  layout_type (flat c) = leaf (primitive_of c.kind)
  layout_type (regular size n x) = reg size (layout_type x)
  layout_type (lists s t x) = var (layout_type x)
  layout_type (offset_lists o x) = var (layout_type x)
  layout_type (rows names n xs) = row_type names (layout_types xs)
  layout_type (indexed j x) = layout_type x
  layout_type (optional j x) = opt (layout_type x)
  layout_type (byte_masked m v x) = opt (layout_type x)
  layout_type (bit_masked m v x) = opt (layout_type x)
  layout_type (unmasked n x) = opt (layout_type x)
  layout_type (union t j xs) = uni (layout_types xs)

  pub layout_types : Layouts → DataTypes
  layout_types no_layouts = no_types
  layout_types (layout x xs) = type (layout_type x) (layout_types xs)

-- what an array of the layout is: its type and its items are simple
abbrev pub array_type : Layout → DataType
array_type x = simple (layout_type x)

abbrev pub array_items : Layout → List Value
array_items x = map (simple_value (layout_type x)) (items x)

-- an array as its type and its items
abbrev pub array_datum : Layout → Datum
array_datum x = arr (array_type x) (array_items x)
