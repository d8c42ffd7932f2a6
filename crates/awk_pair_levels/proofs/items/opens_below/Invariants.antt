use Rattle.std.proofs.Common.{◌≡◌, drop}
use Rattle.std.specs.List.{list_any}
use Rattle.awk_types.specs.Predicates.{is_list}
use Rattle.awk_types.specs.Simple.{present}
use Rattle.awk_layout.specs.Typing.{array_type}
use Rattle.awk_pair_sides.specs.Levels.{opens}
use Rattle.awk_pair_levels.specs.Shares.{share_types, share_column}
use Rattle.awk_pair_levels.proofs.items.opens_below.Given as goal

abbrev pub invariant-loop-i : goal.invariant-loop-i
invariant-loop-i l =
    list_any (λ p. is_list (present (array_type (share_column p)))) (drop l.i l.shares)
    ≡ opens (share_types l.shares)
