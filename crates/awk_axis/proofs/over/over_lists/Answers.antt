use Rattle.std.specs.Prelude.{◌≡◌, ◌<◌, false, Some}
use Rattle.std.proofs.Common.{ap, subst, ◌∙◌}
use Rattle.awk_types.specs.ItemLimit.{item_limit}
use Rattle.awk_types.specs.View.{typ_of}
use Rattle.awk_layout.specs.Typing.{array_type}
use Rattle.awk_lanes.specs.Places.{size_of}
use Rattle.awk_columns.specs.Lists.{span_length}
use Rattle.awk_list_ends.specs.Inside.{AreInside, IsTotalOf, total_inside}
use Rattle.awk_list_functions.specs.Reach.{here, inner}
use Rattle.awk_axis.proofs.LiftLaws.{here_told}
use Rattle.awk_axis.proofs.OverLaws.{over_many}
use Rattle.awk_axis.proofs.over.over_lists.Goals as goal

pub returns-then-refuses_inside : goal.returns-then-refuses_inside
returns-then-refuses_inside g c =
    let f = g.F.ListOp.function c.args.f.now in
    let k = c.args.k in
    let l = c.args.lists.now in
    let i = c.args.inner.now in
    let m = span_length i.starts i.stops in
    let h : AreInside m (size_of i.starts) l.starts l.stops (Some c.in-Some.inside) =
    rw c.in-Some.is at c.in_ok-items_inside.ensures in
    let many : item_limit < total_inside m l.starts l.stops =
    subst (IsTotalOf (total_inside m l.starts l.stops))
    (c.refuses_inside.ensures.many c.if-refuses_inside.true) h.1 in
    let e : here (inner k) (array_type i.content) ≡ false =
    here_told (inner k) (array_type i.content) (typ_of c.typ.result.now) c.is_here.result false
    (c.typ.ensures.typ ∙ ap array_type c.content.ensures.content)
    (c.is_here.ensures ∙ ap (λ j. here j (typ_of c.typ.result.now)) c.inner.ensures)
    c.if-is_here.false in
    over_many f k l i.class i.starts i.stops i.content
    (c.refuses_inside.ensures.never c.if-refuses_inside.true) c.requires.above e c.requires.opens
    many
