use Rattle.awk_expr.specs.View.{expr_of}
use Rattle.awk_eval.specs.Views.{view_of}
use Rattle.awk_eval.proofs.ViewSteps.{TakesView-steps}
use Rattle.awk_session.proofs.ViewLaws.{shows_value, shows_fault}
use Rattle.awk_session.proofs.reply.show.Goals as goal

pub returns-in-Ok-clause-shows : goal.returns-in-Ok-clause-shows
returns-in-Ok-clause-shows g c =
    shows_value c.args.env.now (view_of (expr_of c.args.e.now)) c.args.steps.now
    c.eval.new.steps c.in-Ok.datum c.in-Ok.ensures.cost

pub returns-in-Ok-clause-cost : goal.returns-in-Ok-clause-cost
returns-in-Ok-clause-cost g c =
    TakesView-steps c.args.env.now (view_of (expr_of c.args.e.now)) c.args.steps.now
    c.eval.new.steps c.eval.result c.eval.ensures.cost

pub returns-in-Err-clause-shows : goal.returns-in-Err-clause-shows
returns-in-Err-clause-shows g c =
    shows_fault c.args.env.now (view_of (expr_of c.args.e.now)) c.refused.result
    c.refused.ensures.shows

pub returns-in-Err-clause-cost : goal.returns-in-Err-clause-cost
returns-in-Err-clause-cost g c =
    TakesView-steps c.args.env.now (view_of (expr_of c.args.e.now)) c.args.steps.now
    c.eval.new.steps c.eval.result c.eval.ensures.cost
