use Rattle.std.proofs.Common.{◌∙◌, ap}
use Rattle.awk_layout.specs.Valid.{len}
use Rattle.awk_list_ends.proofs.TotalLaws.{over_by}
use Rattle.awk_list_ends.proofs.total.lie_over_one_another.Goals as goal

pub returns : goal.returns
returns g c =
    let l = c.args.lists.now in
    over_by l.starts l.stops l.content c.len-n.result c.are_within.result
    (c.len-n.ensures.len ∙ ap len c.content.ensures.content)
    (rw c.in_ok-bounds.ensures at c.are_within.ensures.within)
    (rw c.in_ok-bounds.ensures at c.are_within.ensures.beyond)
