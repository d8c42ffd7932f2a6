use Rattle.std.proofs.Common.{◌≡◌, ap, sym, subst, ◌∙◌}
use Rattle.std.specs.Prelude.{Ok}
use Rattle.std.specs.Simd.Lanes.{zip2}
use Rattle.awk_types.specs.Faults.{fault_told}
use Rattle.awk_types.specs.Gives.{Gives}
use Rattle.awk_layout.specs.Kinds.{kind_of}
use Rattle.awk_leaves.specs.Table.{binary_judged}
use Rattle.awk_leaves.specs.Values.{binary_at, all_values, in_judged}
use Rattle.awk_pointwise.specs.Sides.{leaf_type, side_values, lane_values}
use Rattle.awk_pointwise.proofs.BlockLaws.{length-pair}
use Rattle.awk_pointwise.proofs.LaneLaws.{some_values, some_kind}
use Rattle.awk_pointwise.proofs.ReadyLaws.{judged_same}
use Rattle.awk_pointwise.proofs.binary.binary_leaves.Goals as goal

pub lane_by_blocks-requires-clause-size : goal.lane_by_blocks-requires-clause-size
lane_by_blocks-requires-clause-size g c =
    length-pair (binary_at c.args.op c.in_ok-prim.prim) c.args.n c.args.sides.0.now
    c.args.sides.1.now c.requires.first c.requires.second

pub returns-in-Some-clause-answer : goal.returns-in-Some-clause-answer
returns-in-Some-clause-answer g c =
    let op = c.args.op in
    let x = c.args.sides.0.now in
    let y = c.args.sides.1.now in
    let same : binary_judged op (leaf_type x) (leaf_type y) ≡ Ok c.in_ok-prim.prim =
    judged_same op c.leaf_type.result c.leaf_type-2.result (leaf_type x) (leaf_type y)
    c.binary_prim.result c.in_ok-prim.prim c.leaf_type.ensures c.leaf_type-2.ensures
    c.binary_prim.ensures c.in_ok-prim.was in
    ap (λ j. in_judged j
    (λ p. all_values (zip2 (binary_at op p) (side_values c.args.n x) (side_values c.args.n y))))
    same
    ∙ some_values c.in_ok-prim.prim
    (zip2 (binary_at op c.in_ok-prim.prim) (side_values c.args.n x) (side_values c.args.n y))
    c.in_ok-made.made c.in-Some.lane c.in-Some.is c.in_ok-made.ensures

pub returns-in-Some-clause-kind : goal.returns-in-Some-clause-kind
returns-in-Some-clause-kind g c p e =
    let op = c.args.op in
    let x = c.args.sides.0.now in
    let y = c.args.sides.1.now in
    let q = c.in_ok-prim.prim in
    let same : binary_judged op (leaf_type x) (leaf_type y) ≡ Ok q =
    judged_same op c.leaf_type.result c.leaf_type-2.result (leaf_type x) (leaf_type y)
    c.binary_prim.result q c.leaf_type.ensures c.leaf_type-2.ensures
    c.binary_prim.ensures c.in_ok-prim.was in
    let one : q ≡ p = cc in
    some_kind q (zip2 (binary_at op q) (side_values c.args.n x) (side_values c.args.n y))
    c.in_ok-made.made c.in-Some.lane c.in-Some.is c.in_ok-made.ensures
    ∙ ap kind_of one

pub returns-in-None-clause-answer : goal.returns-in-None-clause-answer
returns-in-None-clause-answer g c =
    let op = c.args.op in
    let x = c.args.sides.0.now in
    let y = c.args.sides.1.now in
    let same : binary_judged op (leaf_type x) (leaf_type y) ≡ Ok c.in_ok-prim.prim =
    judged_same op c.leaf_type.result c.leaf_type-2.result (leaf_type x) (leaf_type y)
    c.binary_prim.result c.in_ok-prim.prim c.leaf_type.ensures c.leaf_type-2.ensures
    c.binary_prim.ensures c.in_ok-prim.was in
    subst (λ j. Gives lane_values fault_told c.lane_by_blocks.result (in_judged j
    (λ p. all_values (zip2 (binary_at op p) (side_values c.args.n x) (side_values c.args.n y)))))
    (sym same) c.lane_by_blocks.ensures.answer
