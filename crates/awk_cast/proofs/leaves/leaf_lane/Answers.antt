use Rattle.std.proofs.Common.{◌∙◌}
use Rattle.awk_layout.specs.Typing.{array_type, array_items}
use Rattle.awk_pointwise.proofs.SideLaws.{lane_values-at}
use Rattle.awk_open.specs.Opened.{IsOpened}
use Rattle.awk_open.specs.declared.opening.Opened.TheVariants as opened
use Rattle.awk_open.specs.InOrder.{IsInOrder}
use Rattle.awk_cast.proofs.LeafLaws.{only_lane}
use Rattle.awk_cast.proofs.leaves.leaf_lane.Goals as goal

pub returns : goal.returns
returns g c =
    let kind : IsOpened c.args.x.now (opened.Leaf c.in-Leaf.lane) =
    rw c.in-Leaf.is at c.in_ok-lane.ensures.opened in
    let order : IsInOrder (array_items c.args.x.now) (opened.Leaf c.in-Leaf.lane) =
    rw c.in-Leaf.is at c.in_ok-lane.ensures.order in
    record { typ = kind.kind; values = order ∙ lane_values-at c.in-Leaf.lane }

pub unreachable-requires : goal.unreachable-requires
unreachable-requires g c =
    only_lane (array_type c.args.x.now) c.in_ok-lane.field-0 c.in_ok-lane.ensures.opened.kind
    c.requires c.in_default.not-Leaf
