use Rattle.std.proofs.Common.{◌≡◌, drop}
use Rattle.std.specs.List.{list_any}
use Rattle.awk_pair_operands.specs.Types.{lists_down, opens_down}
use Rattle.awk_pair_operands.proofs.types.opens_down.Given as goal

abbrev pub invariant-loop-i : goal.invariant-loop-i
invariant-loop-i l = list_any (lists_down l.k) (drop l.i l.xs) ≡ opens_down l.k l.xs
