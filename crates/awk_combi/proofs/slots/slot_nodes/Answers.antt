use Rattle.std.proofs.Common.{◌+◌, sym, subst, arith}
use Rattle.std.proofs.lemmas.Option.{get_or_from_slice_get}
use Rattle.awk_layout.specs.Valid.{len}
use Rattle.awk_lanes.specs.Column.{no_places}
use Rattle.awk_combi.specs.Slots.{AreSlots, IsSlot, IsSlotLane}
use Rattle.awk_combi.proofs.SlotNodes.{one_more}
use Rattle.awk_combi.proofs.slots.slot_nodes.Goals as goal

pub slot_node-requires : goal.slot_node-requires
slot_node-requires g c =
    subst (IsSlotLane c.args.places (len c.args.content.now))
    (get_or_from_slice_get c.args.lanes.now c.loop-j.j c.get.result.now no_places c.get.ensures)
    (c.requires c.loop-j.j (omega (arith, c.loop-j-test.true, c.len-j-end.ensures)))

pub loop-j-preserved : goal.loop-j-preserved
loop-j-preserved g c =
    subst (AreSlots c.args.places c.args.content.now c.args.lanes.now (c.loop-j.j + 1))
    (sym c.in_ok-push.ensures.ok)
    (one_more c.args.places c.args.content.now c.args.lanes.now c.loop-j.j c.loop-j.nodes _
    c.loop-j.invariant
    (subst (λ d. IsSlot c.args.places c.args.content.now d c.in_ok-slot_node.field-0)
    (sym (get_or_from_slice_get c.args.lanes.now c.loop-j.j c.get.result.now no_places
    c.get.ensures))
    c.in_ok-slot_node.ensures))
