use Rattle.awk_counts.specs.Counted.{first_of}
use Rattle.awk_counts.proofs.PlaceLanes.{ArePlaces}
use Rattle.awk_lists.specs.Held.{held_at}
use Rattle.awk_lists.proofs.holding.held_places.Given as goal

abbrev pub invariant-loop-i : goal.invariant-loop-i
invariant-loop-i l = ArePlaces l.n (first_of (held_at l.starts l.stops) l.i) l.maker
