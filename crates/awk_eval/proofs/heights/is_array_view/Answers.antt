use Rattle.std.proofs.Common.{ap, sym, ◌∙◌}
use Rattle.std.specs.Prelude.{not}
use Rattle.awk_expr.specs.View.{expr_of}
use Rattle.awk_eval.specs.Bindings.{look_up}
use Rattle.awk_eval.specs.Heights.{is_single}
use Rattle.awk_eval.specs.Views.{view_of}
use Rattle.awk_eval.proofs.ViewNames.{array_view-name, array_view-none}
use Rattle.awk_eval.proofs.heights.is_array_view.Goals as goal

pub returns-in-Some : goal.returns-in-Some
returns-in-Some c =
    ap not
    (c.is_single.ensures
    ∙ ap is_single
    (c.get.ensures.found ∙ ap (λ m. look_up m c.args.env.now) c.as_str.ensures))
    ∙ sym (array_view-name c.args.env.now (view_of (expr_of c.args.e.now)) c.in-Some.name.now
    c.in-Some.ensures)

pub returns-in-None : goal.returns-in-None
returns-in-None c =
    array_view-none c.args.env.now (view_of (expr_of c.args.e.now)) c.in-None.ensures
