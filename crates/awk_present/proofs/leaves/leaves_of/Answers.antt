use Rattle.awk_layout.specs.Typing.{array_type}
use Rattle.awk_open.proofs.OnlyKinds.{only_leaves}
use Rattle.awk_present.proofs.leaves.leaves_of.Goals as goal

pub unreachable-requires : goal.unreachable-requires
unreachable-requires g c =
    only_leaves (array_type c.args.x.now) c.in_ok-in_order.field-0
    c.in_ok-in_order.ensures.opened.kind c.requires c.in_default.not-Empty c.in_default.not-Leaf
