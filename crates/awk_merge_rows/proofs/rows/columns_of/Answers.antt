use Rattle.awk_merge_sides.specs.Sides.{side_of}
use Rattle.awk_merge_rows.proofs.RowSides.{row_opened}
use Rattle.awk_merge_rows.proofs.rows.columns_of.Goals as goal

pub unreachable-requires : goal.unreachable-requires
unreachable-requires g c =
    row_opened (side_of c.args.side.now) c.in_ok-_names.field-0 c.requires.row c.len.ensures.items
    c.in_ok-_names.ensures c.in_default.not-Row
