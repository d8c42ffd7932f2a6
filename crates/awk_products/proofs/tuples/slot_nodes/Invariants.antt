use Rattle.awk_products.specs.Slots.{AreSlots}
use Rattle.awk_products.proofs.tuples.slot_nodes.Given as goal

abbrev pub invariant-loop-j : goal.invariant-loop-j
invariant-loop-j g l = AreSlots l.fn.places l.fn.contents l.fn.lanes l.j l.nodes
