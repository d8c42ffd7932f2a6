use Rattle.std.proofs.Common.{◌≡◌, ◌+◌, ◌*◌, ◌≤◌, ◌++◌, drop, length}
use Rattle.awk_expr.specs.ExprTree.{exprs_from}
use Rattle.awk_expr.specs.View.{exprs_of}
use Rattle.awk_eval.specs.Variables.{denoted}
use Rattle.awk_arguments.specs.Operand.{takes_literal, AreTaken}
use Rattle.awk_arguments.specs.OperandView.{shown_operands}
use Rattle.awk_eval.specs.Views.{OfView, IsTaken, AreWithin, only_view, size_in}
use Rattle.awk_eval.specs.Eval.{mapped, operands}
use Rattle.awk_eval.proofs.evaluation.+eval.Given as goal

abbrev pub decreases-eval : goal.decreases-eval
decreases-eval g l = 2 * goal.size-eval g l

abbrev pub decreases-operands : goal.decreases-operands
decreases-operands g l = 2 * goal.size-operands g l

-- an expression is evaluated within its operand
abbrev pub decreases-operand : goal.decreases-operand
decreases-operand g l = 2 * goal.size-operand g l + 1

-- the operands so far, and those of the rest
abbrev pub invariant-operands-loop-k : goal.invariant-operands-loop-k
invariant-operands-loop-k g l = record {
  made : operands (denoted l.env) l.op 0 (exprs_from (exprs_of l.args))
      ≡ mapped (λ xs. shown_operands l.made ++ xs)
      (operands (denoted l.env) l.op l.k (exprs_from (drop l.k (exprs_of l.args))));
  count : length l.made ≡ l.k;
  taken : AreTaken (takes_literal l.op) 0 (shown_operands l.made);
  first : l.k ≡ 0 → l.steps ≤ l.initial.steps;
  cost : OfView l.env (only_view (exprs_of l.args)) (λ v.
      IsTaken (size_in l.env v) v.count l.initial.steps l.steps);
  within : OfView l.env (only_view (exprs_of l.args)) (λ v.
      AreWithin (size_in l.env v) l.made);
}
