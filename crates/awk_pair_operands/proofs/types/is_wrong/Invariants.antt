use Rattle.std.proofs.Common.{◌≡◌, map}
use Rattle.awk_pair_operands.specs.Paired.{is_wrong, to_leaves}
use Rattle.awk_pair_operands.specs.Types.{operand_type}
use Rattle.awk_pair_operands.proofs.TypeLaws.{wrong_from}
use Rattle.awk_pair_operands.proofs.types.is_wrong.Given as goal

abbrev pub invariant-loop-k : goal.invariant-loop-k
invariant-loop-k l = wrong_from l.xs l.d l.k ≡ is_wrong to_leaves l.d (map operand_type l.xs)
