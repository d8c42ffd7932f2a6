use Rattle.std.proofs.Common.{◌≡◌, map, drop}
use Rattle.std.specs.List.{list_any}
use Rattle.awk_types.specs.Simple.{is_option}
use Rattle.awk_layout.specs.Typing.{array_type}
use Rattle.awk_pair_sides.specs.Levels as spec
use Rattle.awk_pair_sides.proofs.levels.some_option.Given as goal

abbrev pub invariant-loop-i : goal.invariant-loop-i
invariant-loop-i l =
    list_any (λ x. is_option (array_type x)) (drop l.i l.xs)
    ≡ spec.some_option (map array_type l.xs)
