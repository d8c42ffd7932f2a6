use Rattle.std.proofs.Common.{◌-◌, map}
use Rattle.awk_unify.specs.View.{lift_of, lifts_of, unified_of}
use Rattle.awk_build.proofs.LiftSteps.{AreBack}
use Rattle.awk_build.proofs.lifts.lifts_back.Given as goal

abbrev pub invariant-loop-k : goal.invariant-loop-k
invariant-loop-k l =
    AreBack (map unified_of l.steps) (l.n - l.k) (lift_of l.so_far) (lifts_of l.lifts)
