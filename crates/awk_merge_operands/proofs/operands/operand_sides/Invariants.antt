use Rattle.awk_types.specs.View.{typ_of}
use Rattle.awk_unify.specs.View.{lifts_of}
use Rattle.awk_merge_sides.specs.Sides.{sides_of, IsCounted}
use Rattle.awk_merge_operands.proofs.StackLaws.{AreTaken}
use Rattle.awk_merge_operands.proofs.operands.operand_sides.Given as goal

abbrev pub invariant-loop-i : goal.invariant-loop-i
invariant-loop-i l =
    AreTaken l.xs (lifts_of l.whole.lifts) (typ_of l.whole.typ) l.i (sides_of l.sides)
    × IsCounted l.sides
