use Rattle.std.proofs.Common.{map}
use Rattle.awk_types.specs.View.{typ_of}
use Rattle.awk_unify.specs.View.{unified_of}
use Rattle.awk_build.proofs.LiftSteps.{AreSteps}
use Rattle.awk_build.proofs.lifts.steps_of.Given as goal

abbrev pub invariant-loop-i : goal.invariant-loop-i
invariant-loop-i l = AreSteps l.xs (map unified_of l.steps.items) (typ_of l.typ) l.i
