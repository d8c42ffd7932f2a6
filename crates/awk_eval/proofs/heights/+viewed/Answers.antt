use Rattle.std.proofs.Common.{◌≡◌, true, sym, ◌∙◌}
use Rattle.awk_expr.specs.View.{expr_of}
use Rattle.awk_eval.specs.Views.{is_view_op}
use Rattle.awk_eval.proofs.ViewNames.{viewed_many, viewed_one}
use Rattle.awk_eval.proofs.heights.+viewed.Goals as goal

pub returns-then-len-ne1 : goal.returns-then-len-ne1
returns-then-len-ne1 t c =
    viewed_many c.args.e.now c.in-Call.op c.in-Call.args c.in-Call.fixed c.in-Call.is
    (λ one. c.if-len-ne1.true (c.len.ensures ∙ one))

pub returns-else-not-is_view : goal.returns-else-not-is_view
returns-else-not-is_view t c =
    let views : is_view_op c.in-Call.op c.in-Call.fixed ≡ true = sym c.if-not-is_view.ensures in
    c.viewed_name.ensures
    ∙ viewed_one c.args.e.now c.in-Call.op c.in-Call.args c.in-Call.fixed c.in-Call.is
    (expr_of c.get.result.now) (sym c.len.ensures ∙ c.if-len-ne1.false) c.get.ensures.item views
