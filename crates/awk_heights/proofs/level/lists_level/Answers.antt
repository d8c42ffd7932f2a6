use Rattle.std.proofs.Common.{◌∙◌}
use Rattle.awk_heights.proofs.CoverLaws.{only_lists}
use Rattle.awk_heights.proofs.level.lists_level.Goals as goal

pub returns : goal.returns
returns c x o h =
    only_lists x c.args.lists.now c.copy-starts.result c.copy-stops.result c.in_ok-content.content
    c.in_ok-contents.contents o h (c.copy-starts.ensures ∙ c.starts.ensures)
    (c.copy-stops.ensures ∙ c.stops.ensures) (c.in_ok-content.ensures ∙ c.content.ensures.content)
    c.in_ok-contents.ensures
