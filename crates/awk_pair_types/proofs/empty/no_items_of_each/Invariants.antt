use Rattle.std.proofs.Common.{◌≡◌, ◌≤◌, take, map}
use Rattle.awk_pair_operands.specs.First.{all_data}
use Rattle.awk_pair_operands.specs.Pairs.{typs}
use Rattle.awk_pair_types.specs.Emptied.{emptied, heights}
use Rattle.awk_pair_types.proofs.empty.no_items_of_each.Given as goal

abbrev pub invariant-loop-i : goal.invariant-loop-i
invariant-loop-i g l =
    (all_data l.none ≡ map emptied (all_data (take l.i l.xs)))
    × (heights (typs (all_data (take l.i l.xs))) ≤ 60)
