use Rattle.std.proofs.Common.{◌≡◌, map}
use Rattle.awk_pair_operands.specs.Paired.{all_levels}
use Rattle.awk_pair_operands.specs.Types.{operand_type}
use Rattle.awk_pair_operands.proofs.TypeLaws.{depths_from}
use Rattle.awk_pair_operands.proofs.types.all_levels.Given as goal

abbrev pub invariant-loop-i : goal.invariant-loop-i
invariant-loop-i l = depths_from l.greatest l.xs l.i ≡ all_levels (map operand_type l.xs)
