use Rattle.std.proofs.Common.{◌≡◌, drop}
use Rattle.std.specs.List.{list_any}
use Rattle.awk_layout.specs.Single.{own_datum}
use Rattle.awk_pair_operands.specs.First.{all_data}
use Rattle.awk_pair_operands.specs.Pairs.{is_array, some_array}
use Rattle.awk_pair_operands.proofs.types.some_array.Given as goal

abbrev pub invariant-loop-i : goal.invariant-loop-i
invariant-loop-i l =
    list_any (λ x. is_array (own_datum x)) (drop l.i l.xs) ≡ some_array (all_data l.xs)
