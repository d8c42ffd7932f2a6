use Rattle.std.proofs.Common.{◌≡◌, Some, length, map, take}
use Rattle.awk_layout.specs.Datum.{datum_of}
use Rattle.awk_arguments.specs.Operand.{all_in}
use Rattle.awk_arguments.specs.OperandView.{shown_operands}
use Rattle.awk_arguments.proofs.operands.data.Given as goal

abbrev pub invariant-loop-k : goal.invariant-loop-k
invariant-loop-k l =
    (all_in (shown_operands (take l.k l.operands)) ≡ Some (map datum_of l.made))
    × (length l.made ≡ l.k)
