use Rattle.awk_layout.specs.Typing.{array_type}
use Rattle.awk_open.proofs.OnlyKinds.{only_leaves}
use Rattle.awk_lists.proofs.Leaves.{leaf_numbers}
use Rattle.awk_lists.proofs.numbers.numbers_of.Goals as goal

pub unreachable-requires : goal.unreachable-requires
unreachable-requires g c =
    only_leaves (array_type c.args.x.now) c.in_ok-opened.field-0 c.in_ok-opened.ensures.opened.kind
    c.requires c.in_default.not-Empty c.in_default.not-Leaf

pub returns-in-Leaf : goal.returns-in-Leaf
returns-in-Leaf g c =
    leaf_numbers c.args.x.now c.in-Leaf.lane (rw c.in-Leaf.is at c.in_ok-opened.ensures.opened)
