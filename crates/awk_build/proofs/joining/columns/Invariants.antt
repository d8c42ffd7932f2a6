use Rattle.awk_unify.specs.View.{lifts_of}
use Rattle.awk_merge_sides.specs.Sides.{sides_of, IsCounted}
use Rattle.awk_build.proofs.SideLaws.{AreColumns}
use Rattle.awk_build.proofs.joining.columns.Given as goal

abbrev pub invariant-loop-i : goal.invariant-loop-i
invariant-loop-i l =
    AreColumns (lifts_of l.lifts) l.xs l.i (sides_of l.sides) × IsCounted l.sides
