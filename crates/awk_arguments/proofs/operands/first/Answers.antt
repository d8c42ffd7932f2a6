use Rattle.std.proofs.Common.{[], ◌∷◌, ap, ◌∙◌}
use Rattle.awk_arguments.specs.Operand.{first_in}
use Rattle.awk_arguments.specs.OperandView.{shown_operands}
use Rattle.awk_arguments.proofs.OperandLaws.{operands-two, first-long, first-literal}
use Rattle.awk_arguments.proofs.operands.first.Goals as goal

pub unreachable-requires : goal.unreachable-requires
unreachable-requires c =
    first-literal c.args.operands.now c.get.result.now c.in-Literal.field-0 c.get.ensures.item
    c.in-Literal.is c.requires

pub returns-clause-all : goal.returns-clause-all
returns-clause-all c =
    operands-two c.args.operands.now c.get.result.now c.get-in-Of.result.now
    (first-long c.args.operands.now c.requires) c.get.ensures.item c.get-in-Of.ensures.item
    ∙ ap (λ o. o ∷ c.get-in-Of.result.now ∷ []) c.in-Of.is

pub returns-clause-first : goal.returns-clause-first
returns-clause-first c =
    ap (λ os. first_in (shown_operands os))
    (operands-two c.args.operands.now c.get.result.now c.get-in-Of.result.now
    (first-long c.args.operands.now c.requires) c.get.ensures.item c.get-in-Of.ensures.item
    ∙ ap (λ o. o ∷ c.get-in-Of.result.now ∷ []) c.in-Of.is)
