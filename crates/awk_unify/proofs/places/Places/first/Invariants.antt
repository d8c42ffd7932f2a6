use Rattle.std.proofs.Common.{◌≡◌}
use Rattle.awk_unify.specs.Places.{places}
use Rattle.awk_unify.proofs.places.Places.first.Given as goal

abbrev pub invariant-loop-i : goal.invariant-loop-i
invariant-loop-i l = l.made ≡ places l.i
