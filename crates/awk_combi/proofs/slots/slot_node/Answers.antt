use Rattle.std.proofs.Common.{subst}
use Rattle.awk_layout.specs.Valid.{len}
use Rattle.awk_combi.specs.Slots.{IsSlotLane}
use Rattle.awk_combi.proofs.SlotNodes.{place_slot, index_slot}
use Rattle.awk_combi.proofs.slots.slot_node.Goals as goal

pub returns-then-places : goal.returns-then-places
returns-then-places g c =
    let h = subst (λ b. IsSlotLane b (len c.args.content.now) c.args.lane.now) c.if-places.true
    c.requires in
    rw (c.if-places.true, c.numpy.ensures.node, c.copy.ensures)
    (place_slot c.args.content.now (len c.args.content.now) c.args.lane.now h)

pub records_at-requires-clause-places : goal.records_at-requires-clause-places
records_at-requires-clause-places g c = c.requires.within c.if-places.false

pub returns-then-records : goal.returns-then-records
returns-then-records g c =
    index_slot c.args.places c.args.content.now c.args.lane.now c.in_ok-node.node
    c.len.ensures.valid c.requires c.if-places.false c.in_ok-node.ensures
