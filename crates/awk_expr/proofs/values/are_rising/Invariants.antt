use Rattle.std.proofs.Common.{◌≡◌, drop}
use Rattle.awk_expr.specs.WholeNumbers as numbers
use Rattle.awk_expr.proofs.values.are_rising.Given as goal

-- all rise where those that are left do
abbrev pub invariant-loop-i : goal.invariant-loop-i
invariant-loop-i l = numbers.are_rising l.edges ≡ numbers.are_rising (drop l.i l.edges)
