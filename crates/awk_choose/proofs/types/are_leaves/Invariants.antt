use Rattle.std.proofs.Common.{◌≡◌, map, drop}
use Rattle.std.specs.List.{list_all}
use Rattle.awk_types.specs.Predicates.{is_leaf}
use Rattle.awk_types.specs.Simple.{present}
use Rattle.awk_layout.specs.Typing.{array_type}
use Rattle.awk_choose.proofs.types.are_leaves.Given as goal

abbrev pub invariant-loop-i : goal.invariant-loop-i
invariant-loop-i l =
    list_all (λ x. is_leaf (present (array_type x))) (drop l.i l.columns)
    ≡ list_all is_leaf (map present (map array_type l.columns))
