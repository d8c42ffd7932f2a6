use Rattle.std.proofs.Common.{[], ◌∷◌, ap, ◌∙◌}
use Rattle.awk_arguments.specs.Operand.{three_in}
use Rattle.awk_arguments.specs.OperandView.{shown_operands}
use Rattle.awk_arguments.proofs.OperandLaws.{operands-three, three-long, three-literal}
use Rattle.awk_arguments.proofs.operands.three.Goals as goal

pub unreachable-requires : goal.unreachable-requires
unreachable-requires c =
    three-literal c.args.operands.now c.get.result.now c.in-Literal.field-0 c.get.ensures.item
    c.in-Literal.is c.requires

pub returns-clause-three : goal.returns-clause-three
returns-clause-three c =
    ap (λ os. three_in (shown_operands os))
    (operands-three c.args.operands.now c.get.result.now c.get-in-Of.result.now
    c.get-in-Of-2.result.now (three-long c.args.operands.now c.requires) c.get.ensures.item
    c.get-in-Of.ensures.item c.get-in-Of-2.ensures.item
    ∙ ap (λ o. o ∷ c.get-in-Of.result.now ∷ c.get-in-Of-2.result.now ∷ []) c.in-Of.is)
