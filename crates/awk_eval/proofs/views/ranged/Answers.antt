use Rattle.awk_eval.proofs.WithinLaws.{IsWithin-one}
use Rattle.awk_eval.proofs.views.ranged.Goals as goal

pub returns-in-Some-clause-cost : goal.returns-in-Some-clause-cost
returns-in-Some-clause-cost g c s cuts are =
    c.range_of.ensures.cost s
    (IsWithin-one s c.args.operands.now c.only-x.result.now c.only-x.ensures.alone are)
