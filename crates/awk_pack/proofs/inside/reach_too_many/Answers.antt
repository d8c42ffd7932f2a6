use Rattle.awk_base.proofs.Results.{if_ok}
use Rattle.awk_columns.specs.Lists.{span_length}
use Rattle.awk_list_ends.specs.Inside.{total_inside}
use Rattle.awk_open.specs.Opens.{OpensLists}
use Rattle.awk_pack.specs.Packing.{AreTooMany, ReachTooMany}
use Rattle.awk_pack.proofs.InsideLaws.{reach_inside}
use Rattle.awk_pack.proofs.inside.reach_too_many.Goals as goal

pub returns-in-Items : goal.returns-in-Items
returns-in-Items g c =
    let l = c.args.lists.now in
    let i = c.in-Items.inner in
    let o : OpensLists i.class i.starts i.stops i.content l.content =
    rw (c.in-Items.is, c.content-2.ensures.content) at c.in_ok-inner.ensures in
    let m = span_length i.starts i.stops in
    if_ok (AreTooMany (total_inside m l.starts l.stops)) (ReachTooMany l)
    c.are_too_many_inside.result
    (reach_inside i.class i.starts i.stops i.content l o c.content-2.ensures.lists.spans)
    c.are_too_many_inside.ensures
