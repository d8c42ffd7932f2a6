use Rattle.awk_base.proofs.Results.{if_ok}
use Rattle.awk_axis.specs.declared.lift.Mapped.TheVariants as mapped
use Rattle.awk_axis.specs.Mapped.{IsAtAxis}
use Rattle.awk_axis.specs.Over.{IsOver, IsLaid}
use Rattle.awk_axis.proofs.OverLaws.{over_laid}
use Rattle.awk_axis.proofs.over.over_here.Goals as goal

pub laid_over-requires-clause-valid : goal.laid_over-requires-clause-valid
laid_over-requires-clause-valid g c =
    let i = c.args.inner.now in
    let h : IsAtAxis (g.F.ListOp.function c.args.f.now) i.class i.starts i.stops i.content
    (mapped.Column c.in-Column.node) = rw c.in-Column.is at c.in_ok-at_axis.ensures in
    let a = c.content.ensures.lists in
    (a.fits, rw (h.1.size, c.requires.opens.size) a.spans, h.1.valid)

pub returns-in-Column : goal.returns-in-Column
returns-in-Column g c =
    let f = g.F.ListOp.function c.args.f.now in
    let l = c.args.lists.now in
    let i = c.args.inner.now in
    let w = c.in-Column.node in
    let h : IsAtAxis f i.class i.starts i.stops i.content (mapped.Column w) = rw c.in-Column.is at
    c.in_ok-at_axis.ensures in
    if_ok (IsLaid f.giving l.starts l.stops w) (IsOver f c.args.k l) c.laid_over.result
    (λ r. over_laid f c.args.k l i.class i.starts i.stops i.content w r c.requires.counts
    c.requires.class c.requires.above c.requires.here c.requires.few c.requires.opens h)
    c.laid_over.ensures
