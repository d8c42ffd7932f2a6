-- The layout that a class is.
use Rattle.std.specs.Prelude.{ℕ, option_map}
use Rattle.awk_layout.specs.Layout.{Layout, layouts_from, empty, flat, regular, lists, offset_lists}
use Rattle.awk_layout.specs.Layout.{rows, indexed, optional, byte_masked, bit_masked, unmasked}
use Rattle.awk_layout.specs.Layout.{union}
use Rattle.awk_layout.specs.declared.node.class.Class.{Class}
use Rattle.awk_layout.specs.declared.node.class.Class.TheVariants.{Empty, Numpy, Regular, List}
use Rattle.awk_layout.specs.declared.node.class.Class.TheVariants.{ListOffset, Row, Indexed}
use Rattle.awk_layout.specs.declared.node.class.Class.TheVariants.{IndexedOption, ByteMasked}
use Rattle.awk_layout.specs.declared.node.class.Class.TheVariants.{BitMasked, Unmasked, Union}

-- of n items
abbrev pub layout_of : ℕ → Class → Layout
layout_of n Empty = empty
layout_of n (Numpy c) = flat c.now
layout_of n (Regular size x) = regular size n x.now
layout_of n (List s t x) = lists s.now t.now x.now
layout_of n (ListOffset o x) = offset_lists o.now x.now
layout_of n (Row names xs) = rows (option_map (λ m. m.now) names) n (layouts_from xs.now)
layout_of n (Indexed j x) = indexed j.now x.now
layout_of n (IndexedOption j x) = optional j.now x.now
layout_of n (ByteMasked m v x) = byte_masked m.now v x.now
layout_of n (BitMasked m v x) = bit_masked m.now v x.now
layout_of n (Unmasked x) = unmasked n x.now
layout_of n (Union t j xs) = union t.now j.now (layouts_from xs.now)
