use Rattle.std.proofs.Common.{◌≡◌, ◌++◌, drop}
use Rattle.awk_unify.specs.Carries.{each_then}
use Rattle.awk_unify.specs.View.{lifts_of}
use Rattle.awk_unify.proofs.after.each_then.Given as goal

abbrev pub invariant-loop-i : goal.invariant-loop-i
invariant-loop-i l =
    lifts_of l.made ++ each_then (drop l.i (lifts_of l.fs)) (drop l.i (lifts_of l.gs)) ≡ each_then
    (lifts_of l.fs) (lifts_of l.gs)
