use Rattle.std.proofs.Common.{◌≡◌, ◌++◌, drop, map}
use Rattle.awk_unify.specs.View.{lift_of, lifts_of}
use Rattle.awk_unify.proofs.lift.+copy.Given as goal

abbrev pub invariant-Lifts::copy-loop-item : goal.invariant-Lifts::copy-loop-item
invariant-Lifts::copy-loop-item l =
    lifts_of l.made ++ map lift_of (drop l.item-index l.item-items) ≡ lifts_of l.self
