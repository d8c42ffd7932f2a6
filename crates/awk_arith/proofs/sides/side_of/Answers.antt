use Rattle.std.proofs.Common.{sym, subst}
use Rattle.awk_layout.specs.declared.datum.Operand.TheVariants as operand
use Rattle.awk_ends.specs.Columns.{column_at}
use Rattle.awk_arith.specs.Sides.{IsLaneAt, IsSideAt}
use Rattle.awk_arith.proofs.sides.side_of.Goals as goal

pub returns-in-Of : goal.returns-in-Of
returns-in-Of c n k ys h =
    let at : IsLaneAt n (operand.Of c.in-Of.field-0) k ys c.args.lane.now = rw c.in-Of.is at h in
    let side = c.column_side.ensures n (column_at ys k) at.0 at.1 in
    subst (λ x. IsSideAt n x k ys c.column_side.result) (sym c.in-Of.is) (record {
      typ = side.typ;
      values = side.values;
      side = side.side;
    })
