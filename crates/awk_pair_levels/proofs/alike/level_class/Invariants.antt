use Rattle.std.proofs.Common.{◌≡◌}
use Rattle.std.specs.List.{flat_map}
use Rattle.awk_pair_sides.specs.Levels.{common_class}
use Rattle.awk_pair_levels.specs.Shares.{share_class}
use Rattle.awk_pair_levels.proofs.ClassLaws.{class_from}
use Rattle.awk_pair_levels.proofs.alike.level_class.Given as goal

abbrev pub invariant-loop-i : goal.invariant-loop-i
invariant-loop-i l =
    class_from l.class l.shares l.i ≡ common_class (flat_map share_class l.shares)
