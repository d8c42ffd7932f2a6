-- The contents of a node, by how many there are.
use Rattle.awk_layout.specs.Layout.{Layouts, no_layouts, layout, layouts_from}
use Rattle.awk_heights.specs.declared.higher.Contents.{Contents}
use Rattle.awk_heights.specs.declared.higher.Contents.TheVariants.{Nothing, One, Several}

abbrev pub layouts_of : Contents → Layouts
layouts_of Nothing = no_layouts
layouts_of (One y) = layout y.now no_layouts
layouts_of (Several ys) = layouts_from ys.now
