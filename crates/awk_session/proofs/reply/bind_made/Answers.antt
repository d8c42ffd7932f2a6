use Rattle.std.proofs.Common.{ap}
use Rattle.awk_session.specs.Replies.{evaluated}
use Rattle.awk_expr.specs.View.{expr_of}
use Rattle.awk_eval.specs.Views.{view_of}
use Rattle.awk_eval.proofs.ViewSteps.{TakesView-steps}
use Rattle.awk_session.proofs.ViewLaws.{binds_made}
use Rattle.awk_session.proofs.DenotedLaws.{bound-denoted}
use Rattle.awk_session.proofs.reply.bind_made.Goals as goal

pub returns-in_ok-bind-in-Ok-clause-reply : goal.returns-in_ok-bind-in-Ok-clause-reply
returns-in_ok-bind-in-Ok-clause-reply g c =
    rw c.as_str.ensures
    (bound-denoted c.args.env.now c.bind.new.self c.args.name.now _ _ _
    (ap evaluated c.in-Ok.ensures.answer) c.in_ok-copy-in-Ok.ensures
    c.in_ok-bind-in-Ok.ensures.ok)

pub returns-in_err-copy-in-Ok-clause-cost : goal.returns-in_err-copy-in-Ok-clause-cost
returns-in_err-copy-in-Ok-clause-cost g c =
    TakesView-steps c.args.env.now (view_of (expr_of c.args.e.now)) c.args.steps.now
    c.eval.new.steps c.eval.result c.eval.ensures.cost

pub returns-in_err-bind-in-Ok-clause-cost : goal.returns-in_err-bind-in-Ok-clause-cost
returns-in_err-bind-in-Ok-clause-cost g c =
    TakesView-steps c.args.env.now (view_of (expr_of c.args.e.now)) c.args.steps.now
    c.eval.new.steps c.eval.result c.eval.ensures.cost

pub returns-in_ok-bind-in-Ok-clause-cost : goal.returns-in_ok-bind-in-Ok-clause-cost
returns-in_ok-bind-in-Ok-clause-cost g c =
    TakesView-steps c.args.env.now (view_of (expr_of c.args.e.now)) c.args.steps.now
    c.eval.new.steps c.eval.result c.eval.ensures.cost

pub returns-in-Err-clause-cost : goal.returns-in-Err-clause-cost
returns-in-Err-clause-cost g c =
    TakesView-steps c.args.env.now (view_of (expr_of c.args.e.now)) c.args.steps.now
    c.eval.new.steps c.eval.result c.eval.ensures.cost

pub returns-in_ok-bind-in-Ok-clause-binds : goal.returns-in_ok-bind-in-Ok-clause-binds
returns-in_ok-bind-in-Ok-clause-binds g c =
    binds_made c.args.name.now _ (view_of (expr_of c.args.e.now)) c.args.env.now c.bind.new.self
    c.args.steps.now c.eval.new.steps c.in-Ok.datum c.in_ok-copy-in-Ok.ensures
    c.in_ok-bind-in-Ok.ensures.ok c.in-Ok.ensures.cost
