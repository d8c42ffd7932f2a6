use Rattle.std.proofs.Common.{sym, subst, subst₂, replicate}
use Rattle.std.specs.Int.{w128}
use Rattle.std.specs.Prelude.{IfOk, IfSome, []}
use Rattle.std.specs.Simd.Lanes.{zip2}
use Rattle.std.proofs.lemmas.Int.{to_z-of_z}
use Rattle.awk_lanes.specs.Places.{size_of}
use Rattle.awk_leaves.specs.Values.{binary_on}
use Rattle.awk_leaves.specs.declared.operation.Binary.TheVariants.{Calculate, Test}
use Rattle.awk_numbers.specs.Folds.{lane_numbers}
use Rattle.awk_types.specs.declared.primitive.Primitive.TheVariants as prim
use Rattle.awk_pointwise.specs.Lanes.{HasResults}
use Rattle.awk_pointwise.specs.Numbers.{AreReady}
use Rattle.awk_pointwise.proofs.lanes.of_lane_beside.Goals as goal

pub calculated_with-requires : goal.calculated_with-requires
calculated_with-requires g c =
    (subst (λ op. AreReady op c.args.prim [] []) c.in-Calculate.is c.requires).0

pub returns-in-Calculate : goal.returns-in-Calculate
returns-in-Calculate g c =
    let p = c.args.prim in
    let a = c.args.a.now in
    let xs = lane_numbers a in
    subst (λ op. IfOk c.calculated_with.result (λ o. IfSome o
    (HasResults p (zip2 (binary_on op p) xs (replicate (size_of a) c.args.z)))))
    (sym c.in-Calculate.is)
    (subst (λ z. IfOk c.calculated_with.result (λ o. IfSome o
    (HasResults p (zip2 (binary_on (Calculate c.in-Calculate.op) p) xs (replicate (size_of a) z)))))
    (to_z-of_z w128 c.args.z c.ranges.z) c.calculated_with.ensures)

pub returns-in-Test : goal.returns-in-Test
returns-in-Test g c =
    let a = c.args.a.now in
    let xs = lane_numbers a in
    subst₂ (λ op p. IfOk c.compared_with.result (λ o. IfSome o
    (HasResults p (zip2 (binary_on op p) xs (replicate (size_of a) c.args.z))))) (sym c.in-Test.is)
    (sym (subst (λ op. AreReady op c.args.prim [] []) c.in-Test.is c.requires))
    (subst (λ z. IfOk c.compared_with.result (λ o. IfSome o
    (HasResults prim.Bool
    (zip2 (binary_on (Test c.in-Test.how) prim.Bool) xs (replicate (size_of a) z)))))
    (to_z-of_z w128 c.args.z c.ranges.z) c.compared_with.ensures)
