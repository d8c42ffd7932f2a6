use Rattle.std.proofs.Common.{◌∙◌}
use Rattle.awk_layout.specs.Typing.{array_type, array_items}
use Rattle.awk_pointwise.proofs.SideLaws.{lane_values-at}
use Rattle.awk_open.specs.Opened.{IsOpened}
use Rattle.awk_open.specs.declared.opening.Opened.TheVariants as opened
use Rattle.awk_open.specs.InOrder.{IsInOrder}
use Rattle.awk_open.proofs.OnlyKinds.{only_leaves}
use Rattle.awk_ends.proofs.columns.leaf_lane.Goals as goal

pub returns-in-Leaf : goal.returns-in-Leaf
returns-in-Leaf g c =
    let kind : IsOpened c.args.leaf.now (opened.Leaf c.in-Leaf.lane) =
    rw c.in-Leaf.is at c.in_ok-in_order.ensures.opened in
    let order : IsInOrder (array_items c.args.leaf.now) (opened.Leaf c.in-Leaf.lane) =
    rw c.in-Leaf.is at c.in_ok-in_order.ensures.order in
    (kind.kind, order ∙ lane_values-at c.in-Leaf.lane)

pub unreachable-requires : goal.unreachable-requires
unreachable-requires g c =
    only_leaves (array_type c.args.leaf.now) c.in_ok-in_order.field-0
    c.in_ok-in_order.ensures.opened.kind c.requires c.in_default.not-Empty c.in_default.not-Leaf
