use Rattle.awk_axis.specs.Mapped.{IsLifted}
use Rattle.awk_axis.specs.declared.lift.Mapped.TheVariants as mapped
use Rattle.awk_axis.proofs.ItemAnswers.{IsAccepted, one_spoilt, one_made, one_size}
use Rattle.awk_axis.proofs.items.on_one.Goals as goal

pub returns-in-Spoiled-clause-answer : goal.returns-in-Spoiled-clause-answer
returns-in-Spoiled-clause-answer g c =
    let f = g.F.ListOp.function c.args.f.now in
    let a : IsAccepted f c.args.k c.args.x.now =
    rw (c.in_default.is, c.typ.ensures.typ) at c.judged.ensures in
    let h : IsLifted f c.args.k c.args.x.now (mapped.Spoiled c.in-Spoiled.why) =
    rw c.in-Spoiled.is at c.in_ok-why.ensures in
    rw c.spoilt.ensures (one_spoilt f c.args.k c.args.x.now c.in-Spoiled.why c.requires.one a h)

pub returns-in_ok-of_node-in-Column-clause-answer :
    goal.returns-in_ok-of_node-in-Column-clause-answer
returns-in_ok-of_node-in-Column-clause-answer g c =
    let f = g.F.ListOp.function c.args.f.now in
    let a : IsAccepted f c.args.k c.args.x.now =
    rw (c.in_default.is, c.typ.ensures.typ) at c.judged.ensures in
    let h : IsLifted f c.args.k c.args.x.now (mapped.Column c.in-Column.node) =
    rw c.in-Column.is at c.in_ok-why.ensures in
    rw c.in_ok-of_node-in-Column.ensures (one_made f c.args.k c.args.x.now c.in-Column.node
    c.requires.one a h)

pub returns-in_ok-of_node-in-Column-clause-datum : goal.returns-in_ok-of_node-in-Column-clause-datum
returns-in_ok-of_node-in-Column-clause-datum g c =
    let h : IsLifted (g.F.ListOp.function c.args.f.now) c.args.k c.args.x.now
    (mapped.Column c.in-Column.node) = rw c.in-Column.is at c.in_ok-why.ensures in
    rw c.in_ok-of_node-in-Column.ensures (one_size (g.F.ListOp.function c.args.f.now) c.args.k
    c.args.x.now c.in-Column.node c.requires.one h)
