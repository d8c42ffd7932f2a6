use Rattle.std.proofs.Common.{◌≡◌, ◌+◌, sym, subst, arith, get_or}
use Rattle.std.proofs.lemmas.Option.{get_or_from_slice_get}
use Rattle.awk_lanes.specs.Column.{Column, no_places}
use Rattle.awk_layout.specs.Layout.{Layout, empty}
use Rattle.awk_layout.specs.Valid.{len}
use Rattle.awk_combi.specs.Slots.{IsSlot, IsSlotLane}
use Rattle.awk_products.specs.Slots.{AreSlots}
use Rattle.awk_products.proofs.SlotLaws.{one_more}
use Rattle.awk_products.proofs.tuples.slot_nodes.Goals as goal

pub slot_node-requires : goal.slot_node-requires
slot_node-requires g c =
    let y : get_or c.args.contents.now c.loop-j.j empty ≡ c.get.result.now =
    get_or_from_slice_get c.args.contents.now c.loop-j.j c.get.result.now empty c.get.ensures in
    let l : get_or c.args.lanes.now c.loop-j.j no_places ≡ c.get-in-loop-j.result.now =
    get_or_from_slice_get c.args.lanes.now c.loop-j.j c.get-in-loop-j.result.now no_places
    c.get-in-loop-j.ensures in
    subst (λ (z : Layout). IsSlotLane c.args.places (len z) c.get-in-loop-j.result.now) y
    (subst (λ (d : Column). IsSlotLane c.args.places
    (len (get_or c.args.contents.now c.loop-j.j empty)) d) l
    (c.requires.lanes c.loop-j.j (omega (arith, c.loop-j-test.true, c.len-j-end.ensures))))

pub loop-j-preserved : goal.loop-j-preserved
loop-j-preserved g c =
    let y : get_or c.args.contents.now c.loop-j.j empty ≡ c.get.result.now =
    get_or_from_slice_get c.args.contents.now c.loop-j.j c.get.result.now empty c.get.ensures in
    let l : get_or c.args.lanes.now c.loop-j.j no_places ≡ c.get-in-loop-j.result.now =
    get_or_from_slice_get c.args.lanes.now c.loop-j.j c.get-in-loop-j.result.now no_places
    c.get-in-loop-j.ensures in
    subst (AreSlots c.args.places c.args.contents.now c.args.lanes.now (c.loop-j.j + 1))
    (sym c.in_ok-push.ensures.ok)
    (one_more c.args.places c.args.contents.now c.args.lanes.now c.loop-j.j c.loop-j.nodes _
    c.loop-j.invariant
    (subst (λ (z : Layout). IsSlot c.args.places z
    (get_or c.args.lanes.now c.loop-j.j no_places) c.in_ok-node.node) (sym y)
    (subst (λ (d : Column). IsSlot c.args.places c.get.result.now d c.in_ok-node.node) (sym l)
    c.in_ok-node.ensures)))
