use Rattle.std.specs.Prelude.{◌≡◌, ℕ, ◌<◌, false}
use Rattle.awk_jagged_places.specs.Leaves.{is_outside_at}
use Rattle.awk_jagged_places.proofs.places.Taken.is_outside_in.Given as goal

-- the items before this one name places
abbrev pub invariant-loop-k : goal.invariant-loop-k
invariant-loop-k g l = (j : ℕ) → j < l.k → is_outside_at l.self.xs.now l.self.ws.now l.i j ≡ false
