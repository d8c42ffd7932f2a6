use Rattle.awk_layout.specs.Typing.{array_type}
use Rattle.awk_open.proofs.OnlyKinds.{only_leaves}
use Rattle.awk_select.proofs.cells.optional_cells.Goals as goal

pub unreachable-requires : goal.unreachable-requires
unreachable-requires g c =
    only_leaves (array_type c.args.content.now) c.in_ok-opened.field-0
    c.in_ok-opened.ensures.opened.kind c.requires.typ
    c.in_default.not-Empty c.in_default.not-Leaf
