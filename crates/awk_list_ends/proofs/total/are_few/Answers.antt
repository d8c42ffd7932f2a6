use Rattle.awk_list_ends.proofs.TotalLaws.{few_by}
use Rattle.awk_list_ends.proofs.total.are_few.Goals as goal

pub returns : goal.returns
returns g c =
    let l = c.args.lists.now in
    few_by l.starts l.stops l.content c.are_within.result
    (rw c.in_ok-bounds.ensures at c.are_within.ensures.within)
    (rw c.in_ok-bounds.ensures at c.are_within.ensures.beyond)
