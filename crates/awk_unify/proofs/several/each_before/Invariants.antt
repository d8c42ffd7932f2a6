use Rattle.std.proofs.Common.{◌≡◌, ◌++◌, drop, map}
use Rattle.awk_unify.specs.After.{after}
use Rattle.awk_unify.specs.View.{lift_of, lifts_of}
use Rattle.awk_unify.proofs.several.each_before.Given as goal

abbrev pub invariant-loop-i : goal.invariant-loop-i
invariant-loop-i l =
    lifts_of l.made ++ map (after (lift_of l.g)) (drop l.i (lifts_of l.fs))
    ≡ map (after (lift_of l.g)) (lifts_of l.fs)
