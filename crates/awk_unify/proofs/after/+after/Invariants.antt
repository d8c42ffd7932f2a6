use Rattle.std.proofs.Common.{◌≡◌, ◌++◌, ◌+◌, ◌*◌, drop}
use Rattle.awk_unify.specs.Carries.{put_after}
use Rattle.awk_unify.specs.View.{lifts_of}
use Rattle.awk_unify.specs.declared.lift.Lift.{size-Lift}
use Rattle.awk_unify.specs.declared.lift.Lifts.{size-Lifts}
use Rattle.awk_unify.proofs.after.+after.Given as goal

abbrev pub invariant-each_after-loop-i : goal.invariant-each_after-loop-i
invariant-each_after-loop-i l =
    lifts_of l.made ++ put_after (lifts_of l.gs) (drop l.i l.ks) (drop l.i (lifts_of l.fs)) ≡
    put_after (lifts_of l.gs) l.ks (lifts_of l.fs)

abbrev pub decreases-after : goal.decreases-after
decreases-after l = 3 * size-Lift l.g.now

abbrev pub decreases-after_at : goal.decreases-after_at
decreases-after_at l = 3 * size-Lifts l.gs.now + 1

abbrev pub decreases-each_after : goal.decreases-each_after
decreases-each_after l = 3 * size-Lifts l.gs.now + 2

abbrev pub decreases-first_after : goal.decreases-first_after
decreases-first_after l = 3 * size-Lifts l.gs.now + 2
