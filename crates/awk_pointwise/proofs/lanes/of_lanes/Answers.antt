use Rattle.std.proofs.Common.{sym, subst, subst₂}
use Rattle.std.specs.Prelude.{IfOk, IfSome, []}
use Rattle.std.specs.Simd.Lanes.{zip2}
use Rattle.awk_leaves.specs.Values.{binary_on}
use Rattle.awk_numbers.specs.Folds.{lane_numbers}
use Rattle.awk_pointwise.specs.Lanes.{HasResults}
use Rattle.awk_pointwise.specs.Numbers.{AreReady}
use Rattle.awk_pointwise.proofs.lanes.of_lanes.Goals as goal

pub calculated_of-requires-clause-whole : goal.calculated_of-requires-clause-whole
calculated_of-requires-clause-whole g c =
    (subst (λ op. AreReady op c.args.prim [] []) c.in-Calculate.is c.requires.ready).0

pub returns-in-Calculate : goal.returns-in-Calculate
returns-in-Calculate g c =
    let p = c.args.prim in
    let xs = lane_numbers c.args.a.now in
    let ys = lane_numbers c.args.b.now in
    subst (λ op. IfOk c.calculated_of.result (λ o. IfSome o
    (HasResults p (zip2 (binary_on op p) xs ys)))) (sym c.in-Calculate.is) c.calculated_of.ensures

pub returns-in-Test : goal.returns-in-Test
returns-in-Test g c =
    let xs = lane_numbers c.args.a.now in
    let ys = lane_numbers c.args.b.now in
    subst₂ (λ op p. IfOk c.compared_of.result (λ o. IfSome o
    (HasResults p (zip2 (binary_on op p) xs ys)))) (sym c.in-Test.is)
    (sym (subst (λ op. AreReady op c.args.prim [] []) c.in-Test.is c.requires.ready))
    c.compared_of.ensures
