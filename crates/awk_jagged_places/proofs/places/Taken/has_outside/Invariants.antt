use Rattle.std.specs.Prelude.{ℕ, ◌<◌, false}
use Rattle.awk_jagged_places.specs.Leaves.{AreTestedIn}
use Rattle.awk_jagged_places.proofs.places.Taken.has_outside.Given as goal

-- the items of the lists before this one name places
abbrev pub invariant-loop-i : goal.invariant-loop-i
invariant-loop-i g l = (j : ℕ) → j < l.i → AreTestedIn l.self.xs.now l.self.ws.now j false
