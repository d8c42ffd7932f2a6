use Rattle.awk_layout.specs.Typing.{array_type}
use Rattle.awk_mask.proofs.MaskLeaves.{only_leaves, leaf_truths}
use Rattle.awk_mask.proofs.mask_leaves.truths_of.Goals as goal

pub unreachable-requires : goal.unreachable-requires
unreachable-requires g c =
    only_leaves (array_type c.args.m.now) c.in_ok-opened.field-0 c.in_ok-opened.ensures.opened.kind
    c.requires.mask c.in_default.not-Empty c.in_default.not-Leaf

pub returns-in-Leaf : goal.returns-in-Leaf
returns-in-Leaf g c =
    leaf_truths c.args.m.now c.in-Leaf.lane c.requires.mask
    (rw c.in-Leaf.is at c.in_ok-opened.ensures.opened)
