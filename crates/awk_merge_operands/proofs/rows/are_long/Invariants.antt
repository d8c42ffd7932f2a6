use Rattle.std.proofs.Common.{◌≡◌, map, drop}
use Rattle.awk_merge_operands.specs.Concatenate.{are_long}
use Rattle.awk_merge_operands.specs.Operands.{column_in}
use Rattle.awk_merge_operands.proofs.rows.are_long.Given as goal

abbrev pub invariant-loop-i : goal.invariant-loop-i
invariant-loop-i l =
    are_long l.n (map column_in (drop l.i l.xs)) ≡ are_long l.n (map column_in l.xs)
