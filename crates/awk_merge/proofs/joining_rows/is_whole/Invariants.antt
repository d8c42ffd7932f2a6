use Rattle.std.specs.Prelude.{◌≡◌, ◌+◌, ◌*◌, true, is_some}
use Rattle.std.specs.List.{list_all, range_with_len}
use Rattle.awk_merge_operands.specs.Operands.{list_place}
use Rattle.awk_merge.proofs.joining_rows.is_whole.Given as goal

abbrev pub invariant-loop-j : goal.invariant-loop-j
invariant-loop-j g l =
    list_all (λ j. is_some (list_place l.index (j * l.n + l.i))) (range_with_len 0 l.j) ≡ true
