-- Each end of the walk.
use Rattle.awk_view.proofs.Ends.{null_settles, single_settles, list_settles, single_limit}
use Rattle.awk_view.proofs.Ends.{list_limit}
use Rattle.awk_view.proofs.settling.item_at.Goals as goal

pub single-requires-clause-limit : goal.single-requires-clause-limit
single-requires-clause-limit g c =
    single_limit c.args.x.now c.node.result.now c.in-Single.content.now c.args.i c.in-Single.place
    c.node.ensures c.typ.ensures.lawful.within_limits c.in-Single.ensures.end

pub items-requires-clause-limit : goal.items-requires-clause-limit
items-requires-clause-limit g c =
    list_limit c.args.x.now c.node.result.now c.in-Items.content.now c.args.i c.in-Items.lo
    c.in-Items.hi c.node.ensures c.typ.ensures.lawful.within_limits c.in-Items.ensures.end

pub returns-in_ok-item-in-Null-clause-settled : goal.returns-in_ok-item-in-Null-clause-settled
returns-in_ok-item-in-Null-clause-settled g c =
    null_settles c.args.x.now c.node.result.now c.in_ok-item-in-Null.field-0 c.args.i c.node.ensures
    c.requires.within c.in-Null.ensures.end c.in_ok-item-in-Null.ensures.item

pub returns-in-Single-clause-settled : goal.returns-in-Single-clause-settled
returns-in-Single-clause-settled g c =
    single_settles c.args.x.now c.node.result.now c.in-Single.content.now c.args.i c.in-Single.place
    c.single.result c.node.ensures c.requires.within c.in-Single.ensures.end
    c.single.ensures.single

pub returns-in-Items-clause-settled : goal.returns-in-Items-clause-settled
returns-in-Items-clause-settled g c =
    list_settles c.args.x.now c.node.result.now c.in-Items.content.now c.args.i c.in-Items.lo
    c.in-Items.hi c.items.result c.node.ensures c.requires.within c.in-Items.ensures.end
    c.items.ensures.items
