use Rattle.std.specs.Prelude.{IfOk}
use Rattle.std.proofs.Common.{subst}
use Rattle.awk_lanes.specs.Places.{AreSpans}
use Rattle.awk_layout.specs.Valid.{len}
use Rattle.awk_open.specs.Opens.{OpensLists}
use Rattle.awk_axis.specs.Over.{IsCount}
use Rattle.awk_axis.proofs.OverLaws.{reached-inside}
use Rattle.awk_axis.proofs.over.count_reached.Goals as goal

pub returns-in-Items : goal.returns-in-Items
returns-in-Items g c =
    let l = c.args.lists.now in
    let i = c.in-Items.inner in
    let x = c.args.array.now in
    let p : AreSpans l.starts l.stops (len x) = rw c.requires.same c.content.ensures.lists.spans in
    let o : OpensLists i.class i.starts i.stops i.content x = rw c.in-Items.is at
    c.in_ok-inner.ensures in
    subst (λ n. IfOk c.count_inside.result (IsCount n))
    (reached-inside l.starts l.stops x i.class i.starts i.stops i.content p o)
    c.count_inside.ensures
