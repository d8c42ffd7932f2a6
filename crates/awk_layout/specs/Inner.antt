-- The layout that a node is, by its private parts.
use Rattle.awk_layout.specs.Layout.{Layout, layouts_from, empty, flat, regular, lists, offset_lists}
use Rattle.awk_layout.specs.Layout.{rows, indexed, optional, byte_masked, bit_masked, unmasked}
use Rattle.awk_layout.specs.Layout.{union}
use Rattle.awk_layout.specs.declared.node.Inner.{Inner}
use Rattle.awk_layout.specs.declared.node.Inner.TheVariants.{Empty, Numpy, Regular, List}
use Rattle.awk_layout.specs.declared.node.Inner.TheVariants.{ListOffset, Row, Indexed}
use Rattle.awk_layout.specs.declared.node.Inner.TheVariants.{IndexedOption, ByteMasked, BitMasked}
use Rattle.awk_layout.specs.declared.node.Inner.TheVariants.{Unmasked, Union}

abbrev pub layout_of_inner : Inner → Layout
layout_of_inner Empty = empty
layout_of_inner (Numpy c) = flat c
layout_of_inner (Regular size n x) = regular size n x.value
layout_of_inner (List s t x) = lists s t x.value
layout_of_inner (ListOffset o x) = offset_lists o x.value
layout_of_inner (Row names n xs) = rows names n (layouts_from xs)
layout_of_inner (Indexed j x) = indexed j x.value
layout_of_inner (IndexedOption j x) = optional j x.value
layout_of_inner (ByteMasked m v x) = byte_masked m v x.value
layout_of_inner (BitMasked m v x) = bit_masked m v x.value
layout_of_inner (Unmasked n x) = unmasked n x.value
layout_of_inner (Union t j xs) = union t j (layouts_from xs)
