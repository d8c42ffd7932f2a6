use Rattle.std.proofs.Common.{sym, subst}
use Rattle.std.specs.Prelude.{IfOk, IfSome}
use Rattle.awk_lane_pairs.specs.Results.{AreResults}
use Rattle.awk_lane_pairs.proofs.calculation.calculated_groups.Goals as goal

pub returns-in-Add : goal.returns-in-Add
returns-in-Add g c =
    subst (λ op. IfOk c.held_results.result (λ o. IfSome o
    (AreResults op g.N.Narrow.prim c.args.a.now c.args.b.now))) (sym c.in-Add.is)
    c.held_results.ensures

pub returns-in-Sub : goal.returns-in-Sub
returns-in-Sub g c =
    subst (λ op. IfOk c.held_results-in-Sub.result (λ o. IfSome o
    (AreResults op g.N.Narrow.prim c.args.a.now c.args.b.now))) (sym c.in-Sub.is)
    c.held_results-in-Sub.ensures

pub returns-in-Mul : goal.returns-in-Mul
returns-in-Mul g c =
    subst (λ op. IfOk c.held_results-in-Mul.result (λ o. IfSome o
    (AreResults op g.N.Narrow.prim c.args.a.now c.args.b.now))) (sym c.in-Mul.is)
    c.held_results-in-Mul.ensures
