use Rattle.std.proofs.Common.{refl, ◌∙◌}
use Rattle.awk_jagged_rows.proofs.RowLaws.{rows-listed}
use Rattle.awk_jagged_rows.proofs.row_lists.indexed_lists.Goals as goal

pub returns : goal.returns
returns c x o =
    rows-listed x _ c.args.lists.now _ o refl (c.copy-starts.ensures ∙ c.starts.ensures)
    (c.copy-stops.ensures ∙ c.stops.ensures) (c.in_ok-content.ensures ∙ c.content.ensures.content)
