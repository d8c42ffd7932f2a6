use Rattle.awk_open.proofs.OrderedKinds.{empty_in_order, leaf_in_order, lists_in_order}
use Rattle.awk_open.proofs.OrderedKinds.{row_in_order}
use Rattle.awk_open.proofs.order.in_order.Goals as goal

pub returns-in-Empty-clause-order : goal.returns-in-Empty-clause-order
returns-in-Empty-clause-order g c =
    empty_in_order c.args.x.now (rw c.in-Empty.is at c.in_ok-index.ensures.opened)

pub returns-in-Leaf-clause-order : goal.returns-in-Leaf-clause-order
returns-in-Leaf-clause-order g c =
    leaf_in_order c.args.x.now c.in-Leaf.lane (rw c.in-Leaf.is at c.in_ok-index.ensures.opened)

pub returns-in-Items-clause-order : goal.returns-in-Items-clause-order
returns-in-Items-clause-order g c =
    lists_in_order c.args.x.now c.in-Items.lists (rw c.in-Items.is at c.in_ok-index.ensures.opened)

pub returns-in-Row-clause-order : goal.returns-in-Row-clause-order
returns-in-Row-clause-order g c =
    row_in_order c.args.x.now c.in-Row.names c.in-Row.columns
    (rw c.in-Row.is at c.in_ok-index.ensures.opened)
