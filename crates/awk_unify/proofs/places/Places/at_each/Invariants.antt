use Rattle.std.proofs.Common.{◌≡◌, ◌++◌, drop, map}
use Rattle.awk_unify.specs.Carry.{tag_at}
use Rattle.awk_unify.proofs.places.Places.at_each.Given as goal

abbrev pub invariant-loop-i : goal.invariant-loop-i
invariant-loop-i l = l.made ++ map (tag_at l.self) (drop l.i l.ks) ≡ map (tag_at l.self) l.ks
