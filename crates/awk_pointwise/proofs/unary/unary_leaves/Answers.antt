use Rattle.std.proofs.Common.{◌≡◌, sym, subst, map}
use Rattle.std.specs.Prelude.{Ok}
use Rattle.awk_types.specs.Faults.{fault_told}
use Rattle.awk_types.specs.Gives.{Gives}
use Rattle.awk_leaves.specs.Table.{unary_judged}
use Rattle.awk_leaves.specs.Values.{unary_at, all_values, in_judged}
use Rattle.awk_pointwise.specs.Sides.{leaf_type, side_values, lane_values}
use Rattle.awk_pointwise.proofs.SingleLaws.{unary_same, length-single}
use Rattle.awk_pointwise.proofs.unary.unary_leaves.Goals as goal

pub lane_by_blocks-requires-clause-size : goal.lane_by_blocks-requires-clause-size
lane_by_blocks-requires-clause-size g c =
    length-single (unary_at c.args.op c.in_ok-prim.prim) c.args.n c.args.side.now c.requires

pub returns-clause-answer : goal.returns-clause-answer
returns-clause-answer g c =
    let op = c.args.op in
    let x = c.args.side.now in
    let same : unary_judged op (leaf_type x) ≡ Ok c.in_ok-prim.prim =
    unary_same op c.leaf_type.result (leaf_type x) c.unary_prim.result c.in_ok-prim.prim
    c.leaf_type.ensures c.unary_prim.ensures c.in_ok-prim.was in
    subst (λ j. Gives lane_values fault_told c.lane_by_blocks.result (in_judged j
    (λ p. all_values (map (unary_at op p) (side_values c.args.n x))))) (sym same)
    c.lane_by_blocks.ensures.answer
