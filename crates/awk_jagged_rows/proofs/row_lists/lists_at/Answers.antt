use Rattle.awk_layout.specs.Typing.{array_type}
use Rattle.awk_jagged_rows.proofs.RowLaws.{only_lists}
use Rattle.awk_jagged_rows.proofs.row_lists.lists_at.Goals as goal

pub returns-in-Items : goal.returns-in-Items
returns-in-Items g c =
    c.indexed_lists.ensures c.args.x.now (rw c.in-Items.is at c.in_ok-lists.ensures.opened)

pub unreachable-requires : goal.unreachable-requires
unreachable-requires g c =
    only_lists (array_type c.args.x.now) c.in_ok-lists.field-0 c.in_ok-lists.ensures.opened.kind
    c.requires c.in_default.not-Empty c.in_default.not-Items
