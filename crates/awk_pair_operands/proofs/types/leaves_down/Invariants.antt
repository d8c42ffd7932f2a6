use Rattle.std.proofs.Common.{◌≡◌, drop}
use Rattle.std.specs.List.{list_all}
use Rattle.awk_pair_operands.specs.Types.{leaf_down, leaves_down}
use Rattle.awk_pair_operands.proofs.types.leaves_down.Given as goal

abbrev pub invariant-loop-i : goal.invariant-loop-i
invariant-loop-i l = list_all (leaf_down l.k) (drop l.i l.xs) ≡ leaves_down l.k l.xs
