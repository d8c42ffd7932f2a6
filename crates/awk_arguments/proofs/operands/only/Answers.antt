use Rattle.std.proofs.Common.{[], ◌∷◌, ap, ◌∙◌}
use Rattle.awk_arguments.specs.Operand.{only_in}
use Rattle.awk_arguments.specs.OperandView.{shown_operands}
use Rattle.awk_arguments.proofs.OperandLaws.{operands-one, only-long, only-literal}
use Rattle.awk_arguments.proofs.operands.only.Goals as goal

pub unreachable-requires : goal.unreachable-requires
unreachable-requires c =
    only-literal c.args.operands.now c.get.result.now c.in-Literal.field-0 c.get.ensures.item
    c.in-Literal.is c.requires

pub returns-clause-alone : goal.returns-clause-alone
returns-clause-alone c =
    operands-one c.args.operands.now c.get.result.now
    (only-long c.args.operands.now c.requires) c.get.ensures.item
    ∙ ap (λ o. o ∷ []) c.in-Of.is

pub returns-clause-only : goal.returns-clause-only
returns-clause-only c =
    ap (λ os. only_in (shown_operands os))
    (operands-one c.args.operands.now c.get.result.now
    (only-long c.args.operands.now c.requires) c.get.ensures.item
    ∙ ap (λ o. o ∷ []) c.in-Of.is)
