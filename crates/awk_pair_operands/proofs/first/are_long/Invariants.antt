use Rattle.std.proofs.Common.{◌≡◌, ◌==◌, drop}
use Rattle.std.specs.List.{list_all}
use Rattle.awk_pair_operands.specs.First.{array_lengths}
use Rattle.awk_pair_operands.proofs.first.are_long.Given as goal

abbrev pub invariant-loop-i : goal.invariant-loop-i
invariant-loop-i l = list_all (λ m. l.n == m) (array_lengths (drop l.i l.xs))
    ≡ list_all (λ m. l.n == m) (array_lengths l.xs)
