use Rattle.awk_layout.specs.Typing.{array_type}
use Rattle.awk_open.proofs.OnlyKinds.{only_leaves_or_option}
use Rattle.awk_select.proofs.cells.cells_of.Goals as goal

pub unreachable-requires : goal.unreachable-requires
unreachable-requires g c =
    only_leaves_or_option (array_type c.args.x.now) c.in_ok-opened.field-0
    c.in_ok-opened.ensures.opened.kind c.requires
    c.in_default.not-Empty c.in_default.not-Leaf c.in_default.not-Option
