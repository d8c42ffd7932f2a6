use Rattle.awk_expr.specs.View.{expr_of}
use Rattle.awk_eval.specs.Views.{view_of}
use Rattle.awk_eval.proofs.ViewSteps.{TakesView-steps}
use Rattle.awk_session.proofs.reply.show_type.Goals as goal

pub returns-in_err-type_text-in-Ok-clause-cost : goal.returns-in_err-type_text-in-Ok-clause-cost
returns-in_err-type_text-in-Ok-clause-cost g c =
    TakesView-steps c.args.env.now (view_of (expr_of c.args.e.now)) c.args.steps.now
    c.eval.new.steps c.eval.result c.eval.ensures.cost

pub returns-in_ok-type_text-in-Ok-clause-cost : goal.returns-in_ok-type_text-in-Ok-clause-cost
returns-in_ok-type_text-in-Ok-clause-cost g c =
    TakesView-steps c.args.env.now (view_of (expr_of c.args.e.now)) c.args.steps.now
    c.eval.new.steps c.eval.result c.eval.ensures.cost

pub returns-in-Err-clause-cost : goal.returns-in-Err-clause-cost
returns-in-Err-clause-cost g c =
    TakesView-steps c.args.env.now (view_of (expr_of c.args.e.now)) c.args.steps.now
    c.eval.new.steps c.eval.result c.eval.ensures.cost
