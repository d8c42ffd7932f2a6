use Rattle.std.proofs.Common.{◌≡◌, ◌+◌, ◌∷◌, [], length, length-append, Ok, Err, ap, sym, ◌∙◌}
use Rattle.std.proofs.Common.{subst, arith, rules}
use Rattle.awk_types.specs.Faults.{fault_told}
use Rattle.awk_types.proofs.RefusalLaws.{Gives-Err}
use Rattle.awk_expr.specs.Allowed.{HasArguments}
use Rattle.awk_expr.specs.View.{expr_of, exprs_of}
use Rattle.awk_eval.specs.Variables.{denoted}
use Rattle.awk_eval.proofs.Evaluations.{operands-push, operands-told, AreAllowed-get}
use Rattle.awk_eval.proofs.Evaluations.{HasArguments-call, AreTaken-operands}
use Rattle.awk_arguments.proofs.FitLaws.{FitsFixed-call, FitsOperands-call}
use Rattle.awk_arguments.specs.Operand.{takes_literal, AreTaken}
use Rattle.awk_arguments.specs.OperandView.{shown_operands}
use Rattle.awk_layout.specs.Filler.{filler_of}
use Rattle.std.proofs.lemmas.List.{length-map}
use Rattle.awk_eval.specs.Views.{view_of, only_view, size_in, AreWithin, IsOperandWithin, IsWithin}
use Rattle.awk_eval.proofs.HeightLaws.{call_no_higher, TakesView-limited, TakesView-unlimited}
use Rattle.awk_eval.proofs.ViewSteps.{OfView-all, Taken-get, within-get, TakesView-steps}
use Rattle.awk_eval.proofs.ViewSteps.{TakesView-within, TakesView-fault, TakesView-call, IfOk-IsErr}
use Rattle.awk_eval.proofs.evaluation.+eval.Goals as goal

pub eval-apply-requires-clause-arguments : goal.eval-apply-requires-clause-arguments
eval-apply-requires-clause-arguments g t c =
    subst (λ n. HasArguments c.in-Call.op n c.in-Call.fixed)
    (sym c.in_ok-operands-in-Call.ensures.count)
    (HasArguments-call c.args.e.now c.in-Call.op c.in-Call.args c.in-Call.fixed c.in-Call.is
    c.requires)

pub eval-apply-requires-clause-others : goal.eval-apply-requires-clause-others
eval-apply-requires-clause-others g t c =
    FitsFixed-call c.in-Call.op (length (exprs_of c.in-Call.args)) c.in-Call.fixed
    (HasArguments-call c.args.e.now c.in-Call.op c.in-Call.args c.in-Call.fixed c.in-Call.is
    c.requires)

pub eval-apply-requires-clause-operands : goal.eval-apply-requires-clause-operands
eval-apply-requires-clause-operands g t c =
    FitsOperands-call c.in-Call.op (length (exprs_of c.in-Call.args)) c.in-Call.fixed
    (shown_operands c.in_ok-operands-in-Call.operands)
    (HasArguments-call c.args.e.now c.in-Call.op c.in-Call.args c.in-Call.fixed c.in-Call.is
    c.requires)
    (length-map c.in_ok-operands-in-Call.operands filler_of
    ∙ c.in_ok-operands-in-Call.ensures.count)
    c.in_ok-operands-in-Call.ensures.taken

pub operands-operand-requires : goal.operands-operand-requires
operands-operand-requires g t c κs within =
    let allowed = AreAllowed-get (exprs_of c.args.args.now) c.loop-k.k (expr_of c.get.result.now)
    c.get.ensures.item c.requires in
    let below = c.get.ensures.below in
    search rules

pub operands-returns-in_err-x-clause-answer : goal.operands-returns-in_err-x-clause-answer
operands-returns-in_err-x-clause-answer g t c =
    let fault = c.in_err-x.field-0.0 in
    let failed : c.from_residual.result ≡ Err fault = grind arith in
    Gives-Err _ _ _ fault _ failed
    (operands-told (denoted c.args.env.now) c.args.op (exprs_of c.args.args.now) c.loop-k.made
    c.loop-k.k (expr_of c.get.result.now) c.takes_literal.result c.get.ensures.item
    c.takes_literal.ensures c.loop-k.invariant.made (fault_told fault) c.in_err-x.ensures.answer)

pub operands-loop-k-preserved : goal.operands-loop-k-preserved
operands-loop-k-preserved g t c = record {
  made = operands-push (denoted c.args.env.now) c.args.op (exprs_of c.args.args.now) c.loop-k.made
      c.loop-k.k (expr_of c.get.result.now) c.takes_literal.result c.get.ensures.item
      c.takes_literal.ensures c.loop-k.invariant.made c.push.new.self c.in_ok-x.x
      c.in_ok-push.ensures.ok c.in_ok-x.ensures.answer;
  count = ap length c.in_ok-push.ensures.ok
      ∙ length-append c.loop-k.made (c.in_ok-x.x ∷ [])
      ∙ ap (λ n. n + 1) c.loop-k.invariant.count;
  taken = AreTaken-operands c.args.op c.loop-k.made c.push.new.self c.loop-k.k c.in_ok-x.x
      c.takes_literal.result c.in_ok-push.ensures.ok c.loop-k.invariant.count
      c.takes_literal.ensures c.loop-k.invariant.taken c.in_ok-x.ensures.taken;
  first = λ at_first. absurd (omega arith);
  cost = Taken-get c.args.env.now (exprs_of c.args.args.now) c.loop-k.k (expr_of c.get.result.now)
      c.args.steps.now c.loop-k.steps c.operand.new.steps c.get.ensures.item
      c.loop-k.invariant.first c.operand.ensures.cost;
  within = within-get c.args.env.now (exprs_of c.args.args.now) c.loop-k.k
      (expr_of c.get.result.now) c.loop-k.made c.push.new.self c.in_ok-x.x c.get.ensures.item
      c.loop-k.invariant.count c.in_ok-push.ensures.ok c.in_ok-x.ensures.within;
}

pub operands-loop-k-init : goal.operands-loop-k-init
operands-loop-k-init g t c = record {
  made = search rules;
  count = ap length c.new-made.ensures;
  taken = subst (λ made. AreTaken (takes_literal c.args.op) 0 (shown_operands made))
      (sym c.new-made.ensures) tt;
  first = λ at_first. omega arith;
  cost = OfView-all c.args.env.now (only_view (exprs_of c.args.args.now)) _ (λ v. omega arith);
  within = OfView-all c.args.env.now (only_view (exprs_of c.args.args.now)) _
      (λ v. subst (AreWithin (size_in c.args.env.now v)) (sym c.new-made.ensures) tt);
}

pub operands-returns-in_err-x-clause-cost : goal.operands-returns-in_err-x-clause-cost
operands-returns-in_err-x-clause-cost g t c =
    Taken-get c.args.env.now (exprs_of c.args.args.now) c.loop-k.k (expr_of c.get.result.now)
    c.args.steps.now c.loop-k.steps c.operand.new.steps c.get.ensures.item c.loop-k.invariant.first
    c.operand.ensures.cost

pub operands-returns-in_err-push-clause-cost : goal.operands-returns-in_err-push-clause-cost
operands-returns-in_err-push-clause-cost g t c =
    Taken-get c.args.env.now (exprs_of c.args.args.now) c.loop-k.k (expr_of c.get.result.now)
    c.args.steps.now c.loop-k.steps c.operand.new.steps c.get.ensures.item c.loop-k.invariant.first
    c.operand.ensures.cost

pub operand-returns-in_err-eval-clause-cost : goal.operand-returns-in_err-eval-clause-cost
operand-returns-in_err-eval-clause-cost g t c =
    TakesView-steps c.args.env.now (view_of (expr_of c.args.e.now)) c.args.steps.now
    c.eval.new.steps c.eval.result c.eval.ensures.cost

pub operand-returns-clause-cost : goal.operand-returns-clause-cost
operand-returns-clause-cost g t c =
    TakesView-steps c.args.env.now (view_of (expr_of c.args.e.now)) c.args.steps.now
    c.eval.new.steps c.eval.result c.eval.ensures.cost

pub operand-returns-in_err-eval-clause-within : goal.operand-returns-in_err-eval-clause-within
operand-returns-in_err-eval-clause-within g t c =
    OfView-all c.args.env.now (view_of (expr_of c.args.e.now)) _
    (λ v. IfOk-IsErr (IsOperandWithin (size_in c.args.env.now v)) c.from_residual.result
    c.from_residual.ensures.0)

pub operand-returns-clause-within : goal.operand-returns-clause-within
operand-returns-clause-within g t c =
    TakesView-within c.args.env.now (view_of (expr_of c.args.e.now)) c.args.steps.now
    c.eval.new.steps c.in_ok-eval.field-0 c.in_ok-eval.ensures.cost

pub eval-returns-in_err-operands-in-Call-clause-cost :
    goal.eval-returns-in_err-operands-in-Call-clause-cost
eval-returns-in_err-operands-in-Call-clause-cost g t c =
    TakesView-fault c.args.env.now c.args.e.now c.in-Call.op c.in-Call.args c.in-Call.fixed
    c.in-Call.is c.args.steps.now c.operands.new.steps
    c.from_residual-in_err-operands-in-Call.result
    c.from_residual-in_err-operands-in-Call.ensures.0 c.operands.ensures.cost

pub eval-returns-in_err-made-in-Call-clause-cost :
    goal.eval-returns-in_err-made-in-Call-clause-cost
eval-returns-in_err-made-in-Call-clause-cost g t c =
    TakesView-call c.args.env.now c.args.e.now c.in-Call.op c.in-Call.args c.in-Call.fixed
    c.in-Call.is c.in_ok-operands-in-Call.operands c.args.steps.now c.operands.new.steps
    c.apply.new.steps c.from_residual-in_err-made-in-Call.result c.operands.ensures.cost
    c.in_ok-operands-in-Call.ensures.within
    (λ s views within. record {
      steps = (c.in_err-made-in-Call.ensures.cost s views within).steps;
      within = IfOk-IsErr (IsWithin s) c.from_residual-in_err-made-in-Call.result
          c.from_residual-in_err-made-in-Call.ensures.0;
    })

pub eval-returns-in_err-limited-in-Call-clause-cost :
    goal.eval-returns-in_err-limited-in-Call-clause-cost
eval-returns-in_err-limited-in-Call-clause-cost g t c =
    TakesView-unlimited c.args.env.now c.in_ok-made-in-Call.made (view_of (expr_of c.args.e.now))
    c.args.steps.now c.apply.new.steps c.limited.new.steps
    c.from_residual-in_err-limited-in-Call.result
    c.from_residual-in_err-limited-in-Call.ensures.0
    (TakesView-call c.args.env.now c.args.e.now c.in-Call.op c.in-Call.args c.in-Call.fixed
    c.in-Call.is c.in_ok-operands-in-Call.operands c.args.steps.now c.operands.new.steps
    c.apply.new.steps (Ok c.in_ok-made-in-Call.made) c.operands.ensures.cost
    c.in_ok-operands-in-Call.ensures.within c.in_ok-made-in-Call.ensures.cost)
    (λ view. (c.in_err-limited-in-Call.ensures.view view).0)

pub eval-returns-in_ok-limited-in-Call-clause-cost :
    goal.eval-returns-in_ok-limited-in-Call-clause-cost
eval-returns-in_ok-limited-in-Call-clause-cost g t c =
    TakesView-limited c.args.env.now c.in_ok-made-in-Call.made (view_of (expr_of c.args.e.now))
    c.args.steps.now c.apply.new.steps c.limited.new.steps
    (Ok c.in_ok-limited-in-Call.field-0)
    (TakesView-call c.args.env.now c.args.e.now c.in-Call.op c.in-Call.args c.in-Call.fixed
    c.in-Call.is c.in_ok-operands-in-Call.operands c.args.steps.now c.operands.new.steps
    c.apply.new.steps (Ok c.in_ok-made-in-Call.made) c.operands.ensures.cost
    c.in_ok-operands-in-Call.ensures.within c.in_ok-made-in-Call.ensures.cost)
    c.in_ok-limited-in-Call.ensures.view

pub eval-returns-in_ok-limited-in-Call-clause-height :
    goal.eval-returns-in_ok-limited-in-Call-clause-height
eval-returns-in_ok-limited-in-Call-clause-height g t c =
    call_no_higher c.args.env.now c.in_ok-made-in-Call.made (view_of (expr_of c.args.e.now))
    c.args.steps.now c.apply.new.steps c.in_ok-limited-in-Call.field-0
    (TakesView-call c.args.env.now c.args.e.now c.in-Call.op c.in-Call.args c.in-Call.fixed
    c.in-Call.is c.in_ok-operands-in-Call.operands c.args.steps.now c.operands.new.steps
    c.apply.new.steps (Ok c.in_ok-made-in-Call.made) c.operands.ensures.cost
    c.in_ok-operands-in-Call.ensures.within c.in_ok-made-in-Call.ensures.cost)
    (λ view. (c.in_ok-limited-in-Call.ensures.view view).1)
    c.in_ok-limited-in-Call.ensures.low
