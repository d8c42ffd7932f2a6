use Rattle.std.proofs.Common.{◌≡◌, drop}
use Rattle.awk_pair_operands.specs.First.{array_lengths}
use Rattle.awk_pair_operands.proofs.first.first_length.Given as goal

abbrev pub invariant-loop-i : goal.invariant-loop-i
invariant-loop-i l = array_lengths (drop l.i l.xs) ≡ array_lengths l.xs
