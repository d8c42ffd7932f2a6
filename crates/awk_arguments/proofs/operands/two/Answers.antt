use Rattle.std.proofs.Common.{ap}
use Rattle.awk_arguments.specs.Operand.{two_in}
use Rattle.awk_arguments.specs.OperandView.{shown_operands}
use Rattle.awk_arguments.proofs.OperandLaws.{operands-two, two-long}
use Rattle.awk_arguments.proofs.operands.two.Goals as goal

pub returns-clause-two : goal.returns-clause-two
returns-clause-two c =
    ap (λ os. two_in (shown_operands os))
    (operands-two c.args.operands.now c.get.result.now c.get-2.result.now
    (two-long c.args.operands.now c.requires) c.get.ensures.item c.get-2.ensures.item)
