use Rattle.std.proofs.Common.{◌∙◌}
use Rattle.awk_layout.specs.Typing.{array_type, array_items}
use Rattle.awk_pointwise.proofs.SideLaws.{lane_values-at}
use Rattle.awk_open.specs.Opened.{IsOpened}
use Rattle.awk_open.specs.declared.opening.Opened.TheVariants as opened
use Rattle.awk_open.specs.InOrder.{IsInOrder}
use Rattle.awk_open.proofs.OnlyKinds.{only_leaves_or_option}
use Rattle.awk_choose.proofs.ColumnLaws.{leaves_end}
use Rattle.awk_choose.proofs.ends.column_end.Goals as goal

pub returns-in-Leaf : goal.returns-in-Leaf
returns-in-Leaf g c =
    let x = c.args.leaf.now in
    let lane = c.in-Leaf.lane in
    let kind : IsOpened x (opened.Leaf lane) = rw c.in-Leaf.is at c.in_ok-in_order.ensures.opened in
    let order : IsInOrder (array_items x) (opened.Leaf lane) =
    rw c.in-Leaf.is at c.in_ok-in_order.ensures.order in
    leaves_end x lane kind.kind (order ∙ lane_values-at lane) c.len.ensures.items

pub unreachable-requires : goal.unreachable-requires
unreachable-requires g c =
    only_leaves_or_option (array_type c.args.leaf.now) c.in_ok-in_order.field-0
    c.in_ok-in_order.ensures.opened.kind c.requires c.in_default.not-Empty c.in_default.not-Leaf
    c.in_default.not-Option
