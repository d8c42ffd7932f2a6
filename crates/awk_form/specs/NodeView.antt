-- What a `Node` says.
use Rattle.std.specs.Prelude.{map}
use Rattle.serde_json.specs.View.{view}
use Rattle.awk_form.specs.Node as said
use Rattle.awk_form.specs.declared.node.Head.{Head}
use Rattle.awk_form.specs.declared.node.Head.TheVariants.{Empty, Numpy, Regular, List, ListOffset}
use Rattle.awk_form.specs.declared.node.Head.TheVariants.{Row, Indexed, IndexedOption, ByteMasked}
use Rattle.awk_form.specs.declared.node.Head.TheVariants.{BitMasked, Unmasked, Union}
use Rattle.awk_form.specs.declared.node.Node.{Node}

abbrev pub head_of : Head → said.Head
head_of Empty = said.empty
head_of (Numpy prim inner) = said.numpy prim inner
head_of (Regular size content) = said.regular size (view content.now)
head_of (List starts stops content) = said.list starts stops (view content.now)
head_of (ListOffset offsets content) = said.list_offset offsets (view content.now)
head_of (Row names contents) = said.row names (map view contents.now)
head_of (Indexed index content) = said.indexed index (view content.now)
head_of (IndexedOption index content) = said.indexed_option index (view content.now)
head_of (ByteMasked valid_when content) = said.byte_masked valid_when (view content.now)
head_of (BitMasked valid_when lsb_order content) =
    said.bit_masked valid_when lsb_order (view content.now)
head_of (Unmasked content) = said.unmasked (view content.now)
head_of (Union index contents) = said.union index (map view contents.now)

abbrev pub node_of : Node → said.Node
node_of n = record { key = n.key; head = head_of n.head }
