use Rattle.std.proofs.Common.{◌≡◌, ◌↔◌, ◌+◌, ◌*◌, drop, map, length}
use Rattle.awk_unify.specs.View.{lift_of, lifts_of}
use Rattle.awk_unify.specs.declared.lift.Lift.{size-Lift}
use Rattle.awk_unify.specs.declared.lift.Lifts.{size-Lifts}
use Rattle.awk_unify.proofs.lift.+same.Given as goal

-- the rest decides
abbrev pub invariant-same_lifts-loop-i : goal.invariant-same_lifts-loop-i
invariant-same_lifts-loop-i l =
    (length l.fs.items.items ≡ length l.gs.items.items)
    × ((lifts_of l.fs ≡ lifts_of l.gs)
    ↔ (map lift_of (drop l.i l.fs.items.items) ≡ map lift_of (drop l.i l.gs.items.items)))

abbrev pub decreases-same_lift : goal.decreases-same_lift
decreases-same_lift l = 3 * size-Lift l.f.now

abbrev pub decreases-same_parts : goal.decreases-same_parts
decreases-same_parts l = 3 * size-Lifts l.fs.now + 1

abbrev pub decreases-same_lifts : goal.decreases-same_lifts
decreases-same_lifts l = 3 * size-Lifts l.fs.now
