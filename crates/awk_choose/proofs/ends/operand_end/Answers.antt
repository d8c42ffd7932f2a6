use Rattle.std.proofs.Common.{◌≡◌, sym, subst}
use Rattle.std.proofs.lemmas.Result.{IfOk-weaker}
use Rattle.std.specs.Prelude.{true, IfOk}
use Rattle.awk_base.proofs.Every.{all-at}
use Rattle.awk_types.specs.Predicates.{is_leaf}
use Rattle.awk_types.specs.Simple.{present}
use Rattle.awk_layout.specs.Layout.{empty}
use Rattle.awk_layout.specs.Typing.{array_type}
use Rattle.awk_layout.specs.declared.datum.Operand.TheVariants as operand
use Rattle.awk_ends.specs.Columns.{IsAmong, column_at, ends_of}
use Rattle.awk_ends.proofs.LaneLaws.{column_is}
use Rattle.awk_choose.specs.Ends.{IsLeafColumn, IsColumnEnd, IsEndAt}
use Rattle.awk_choose.proofs.EndLaws.{column-at}
use Rattle.awk_choose.proofs.ends.operand_end.Goals as goal

pub column_end-requires : goal.column_end-requires
column_end-requires g c =
    let ys = c.args.leaves.now in
    let k = c.args.k in
    let among = subst (λ x. IsAmong x k ys) c.in-Of.is c.requires.among in
    subst (λ y. is_leaf (present (array_type y)) ≡ true)
    (column_is ys k c.get.result.now c.get.ensures)
    (all-at (IsLeafColumn (ends_of ys)) ys k empty c.requires.leaves among).leaf

pub returns-in-Of : goal.returns-in-Of
returns-in-Of g c =
    let ys = c.args.leaves.now in
    let k = c.args.k in
    let among = subst (λ x. IsAmong x k ys) c.in-Of.is c.requires.among in
    let same : column_at ys k ≡ c.get.result.now =
    column_is ys k c.get.result.now c.get.ensures in
    let size = (all-at (IsLeafColumn (ends_of ys)) ys k empty c.requires.leaves among).size in
    subst (λ x. IfOk c.column_end.result (IsEndAt x k ys)) (sym c.in-Of.is)
    (IfOk-weaker c.column_end.result (IsColumnEnd c.get.result.now)
    (IsEndAt (operand.Of c.in-Of.field-0) k ys)
    (λ e h. column-at c.in-Of.field-0 k ys e size (subst (λ y. IsColumnEnd y e) (sym same) h))
    c.column_end.ensures)
