use Rattle.std.proofs.Common.{subst, sym}
use Rattle.awk_frames.specs.Framed.{IsAlike, framed_layout}
use Rattle.awk_frames.specs.View.{shape_of}
use Rattle.awk_frames.proofs.NodeLaws.{items_fit, items_alike, missing_fit, missing_alike}
use Rattle.awk_frames.proofs.framing.+framed.Goals as goal

pub list_node-requires-clause-offsets : goal.list_node-requires-clause-offsets
list_node-requires-clause-offsets g t c =
    items_fit c.args.shape.now c.deref.result.now c.in-Items.offsets c.copy.result
    c.in-Items.regular c.in-Items.below c.args.ends c.in_ok-content-in-Items.content c.in-Items.is
    c.deref.ensures c.requires c.in_ok-content-in-Items.ensures c.copy.ensures

pub returns-in_ok-content-in-Items : goal.returns-in_ok-content-in-Items
returns-in_ok-content-in-Items g t c =
    items_alike c.args.shape.now c.deref.result.now c.in-Items.offsets c.copy.result
    c.in-Items.regular c.in-Items.below c.args.ends c.in_ok-content-in-Items.content
    c.list_node.result c.in-Items.is c.deref.ensures c.requires c.in_ok-content-in-Items.ensures
    c.copy.ensures c.list_node.ensures

pub indexed_option-requires-clause-valid : goal.indexed_option-requires-clause-valid
indexed_option-requires-clause-valid g t c =
    missing_fit c.args.shape.now c.deref-in-Missing.result.now c.in-Missing.index
    c.lane.result c.in-Missing.below c.args.ends
    c.in_ok-content-in-Missing-2.content.value c.in-Missing.is c.deref-in-Missing.ensures
    c.requires
    (subst (IsAlike (framed_layout (shape_of c.deref-in-Missing.result.now) c.args.ends))
    (sym c.in_ok-content-in-Missing-2.ensures.ok) c.in_ok-content-in-Missing.ensures)
    c.lane.ensures.kind c.lane.ensures.numbers

pub returns-in_ok-content-in-Missing-2 : goal.returns-in_ok-content-in-Missing-2
returns-in_ok-content-in-Missing-2 g t c =
    missing_alike c.args.shape.now c.deref-in-Missing.result.now c.in-Missing.index
    c.lane.result c.in-Missing.below c.args.ends
    c.in_ok-content-in-Missing-2.content.value c.indexed_option.result c.in-Missing.is
    c.deref-in-Missing.ensures c.requires
    (subst (IsAlike (framed_layout (shape_of c.deref-in-Missing.result.now) c.args.ends))
    (sym c.in_ok-content-in-Missing-2.ensures.ok) c.in_ok-content-in-Missing.ensures)
    c.lane.ensures.kind c.lane.ensures.numbers c.indexed_option.ensures.node
