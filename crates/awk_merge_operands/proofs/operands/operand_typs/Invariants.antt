use Rattle.std.proofs.Common.{◌≡◌, map, drop}
use Rattle.awk_types.specs.View.{typs_of}
use Rattle.awk_layout.specs.Datum.{datum_of}
use Rattle.awk_merge_operands.specs.Concatenate.{operand_types}
use Rattle.awk_merge_operands.specs.Operands.{AreLawful}
use Rattle.awk_merge_operands.proofs.OperandLaws.{types_then}
use Rattle.awk_merge_operands.proofs.operands.operand_typs.Given as goal

abbrev pub invariant-loop-i : goal.invariant-loop-i
invariant-loop-i l =
    (types_then (typs_of l.types) (operand_types l.axis (map datum_of (drop l.i l.xs)))
    ≡ operand_types l.axis (map datum_of l.xs)) × AreLawful (typs_of l.types)
