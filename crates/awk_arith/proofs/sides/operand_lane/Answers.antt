use Rattle.std.proofs.Common.{◌≡◌, sym, subst, ◌∙◌, ap}
use Rattle.std.proofs.lemmas.Result.{IfOk-weaker}
use Rattle.std.specs.Prelude.{IfOk}
use Rattle.awk_layout.specs.Valid.{len}
use Rattle.awk_layout.specs.declared.datum.Operand.TheVariants as operand
use Rattle.awk_ends.specs.Columns.{IsLaneOf, column_at}
use Rattle.awk_ends.proofs.LaneLaws.{column_is}
use Rattle.awk_arith.specs.Sides.{IsLaneAt}
use Rattle.awk_arith.proofs.SideLaws.{column_leaves}
use Rattle.awk_arith.proofs.sides.operand_lane.Goals as goal

pub leaf_lane-requires : goal.leaf_lane-requires
leaf_lane-requires g c =
    (column_leaves c.args.n c.args.leaves.now c.args.k c.get.result.now c.requires.leaves
    c.get.ensures).1

pub returns-in-Of : goal.returns-in-Of
returns-in-Of g c =
    let ys = c.args.leaves.now in
    let same : column_at ys c.args.k ≡ c.get.result.now =
    column_is ys c.args.k c.get.result.now c.get.ensures in
    let size : len (column_at ys c.args.k) ≡ c.args.n =
    ap len same ∙ (column_leaves c.args.n ys c.args.k c.get.result.now c.requires.leaves
    c.get.ensures).0 in
    subst (λ x. IfOk c.leaf_lane.result (IsLaneAt c.args.n x c.args.k ys)) (sym c.in-Of.is)
    (IfOk-weaker c.leaf_lane.result (IsLaneOf c.get.result.now)
    (IsLaneAt c.args.n (operand.Of c.in-Of.field-0) c.args.k ys)
    (λ lane h. (size, subst (λ y. IsLaneOf y lane) (sym same) h)) c.leaf_lane.ensures)
