-- Contents are lower than their node.
use Rattle.std.specs.Prelude.{◌+◌, ◌*◌, ◌≤◌, max, List as Seq, [], ◌∷◌}
use Rattle.std.proofs.Common.{arith}
use denote.Param.Weighed.{most}
use Rattle.awk_layout.specs.declared.node.Inner.{Inner}
use Rattle.awk_layout.specs.declared.node.Inner.TheVariants.{Empty, Numpy, Regular, List}
use Rattle.awk_layout.specs.declared.node.Inner.TheVariants.{ListOffset, Row, Indexed}
use Rattle.awk_layout.specs.declared.node.Inner.TheVariants.{IndexedOption, ByteMasked, BitMasked}
use Rattle.awk_layout.specs.declared.node.Inner.TheVariants.{Unmasked, Union}
use Rattle.awk_layout.specs.declared.node.Node.TheDeep.{deep-Inner}
use Rattle.awk_layout.specs.Layout.{Layout, height, heights, layouts_from}
use Rattle.awk_layout.specs.Inner.{layout_of_inner}

pub node_falls : (a : Inner) → max (deep-Inner a) 0 ≤ 2 * height (layout_of_inner a)
node_falls Empty = omega arith
node_falls (Numpy c) = omega arith
node_falls (Regular size n x) = omega arith
node_falls (List s t x) = omega arith
node_falls (ListOffset o x) = omega arith
node_falls (Row names n xs) = omega arith
node_falls (Indexed j x) = omega arith
node_falls (IndexedOption j x) = omega arith
node_falls (ByteMasked m v x) = omega arith
node_falls (BitMasked m v x) = omega arith
node_falls (Unmasked n x) = omega arith
node_falls (Union t j xs) = omega arith

pub nodes_fall : (xs : Seq Layout)
    → max (most (λ x. 2 * height x + 1) xs) 0 ≤ 2 * heights (layouts_from xs) + 1
nodes_fall [] = omega arith
nodes_fall (x ∷ xs) = omega (arith, nodes_fall xs)
