use Rattle.std.proofs.Common.{arith, refl, ◌-◌}
use Rattle.awk_layout.specs.Typing.{array_type, array_items}
use Rattle.awk_axis.proofs.LiftAnswers.{lift_items, gives_same}
use Rattle.awk_axis.proofs.datum.at_axis_of.Goals as goal

pub returns-else-axis-eq0-clause-answer : goal.returns-else-axis-eq0-clause-answer
returns-else-axis-eq0-clause-answer g c =
    gives_same c.on_items.result _ _
    (lift_items (g.F.ListOp.function c.args.f.now) c.args.axis (c.args.axis - 1)
    (array_type c.args.x.now) (array_items c.args.x.now) (omega (arith, c.if-axis-eq0.false))
    refl)
    c.on_items.ensures.answer
