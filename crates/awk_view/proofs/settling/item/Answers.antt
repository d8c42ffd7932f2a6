-- The part of one item.
use Rattle.awk_view.proofs.Ends.{cut_item}
use Rattle.awk_view.proofs.settling.item.Goals as goal

pub returns-else-len-eq1-clause-item : goal.returns-else-len-eq1-clause-item
returns-else-len-eq1-clause-item g c =
    cut_item c.args.x.now c.args.i c.range.result c.requires c.range.ensures.items
    c.range.ensures.typ c.range.ensures.nodes c.range.ensures.height
