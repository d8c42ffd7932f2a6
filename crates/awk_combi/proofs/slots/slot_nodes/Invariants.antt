use Rattle.awk_combi.specs.Slots.{AreSlots}
use Rattle.awk_combi.proofs.slots.slot_nodes.Given as goal

abbrev pub invariant-loop-j : goal.invariant-loop-j
invariant-loop-j g l = AreSlots l.fn.places l.fn.content l.fn.lanes l.j l.nodes
