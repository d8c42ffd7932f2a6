use Rattle.std.proofs.Common.{◌≡◌, ◌∙◌, Err, ap, arith}
use Rattle.awk_types.proofs.RefusalLaws.{Gives-Err}
use Rattle.awk_types.specs.Faults.{fault_told}
use Rattle.awk_layout.specs.Valid.{len}
use Rattle.awk_cartesian.proofs.WholeLaws.{rows_judged}
use Rattle.awk_cartesian.proofs.crossing.row_count.Goals as goal

pub returns-in_err-judge_rows-in-Rows : goal.returns-in_err-judge_rows-in-Rows
returns-in_err-judge_rows-in-Rows c =
    let failed : c.from_residual.result ≡ Err c.in_err-judge_rows-in-Rows.field-0.0 =
    grind arith in
    Gives-Err (λ m. m) fault_told c.from_residual.result c.in_err-judge_rows-in-Rows.field-0.0 _
    failed
    (rows_judged c.args.axis c.args.xs.now c.get.result.now c.len-n.result c.in-Rows.is
    c.get.ensures.item (c.len-n.ensures.len ∙ ap len c.kept.ensures)
    (fault_told c.in_err-judge_rows-in-Rows.field-0.0) c.in_err-judge_rows-in-Rows.ensures)
