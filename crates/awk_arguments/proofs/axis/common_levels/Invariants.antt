use Rattle.std.proofs.Common.{◌≡◌, ◌∷◌, Some, map}
use Rattle.awk_types.specs.Levels.{common_number, datum_levels}
use Rattle.awk_layout.specs.Datum.{datum_of}
use Rattle.awk_arguments.proofs.AxisLaws.{levels_from}
use Rattle.awk_arguments.proofs.axis.common_levels.Given as goal

-- the first and those that are left decide
abbrev pub invariant-loop-k : goal.invariant-loop-k
invariant-loop-k l =
    common_number (map datum_levels (map datum_of l.xs))
    ≡ common_number (Some l.first ∷ levels_from l.xs l.k)
