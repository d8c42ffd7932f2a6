use Rattle.std.proofs.Common.{◌≡◌, ◌+◌, ◌<◌, ℕ}
use Rattle.awk_lanes.specs.Places.{place_at}
use Rattle.awk_open.proofs.taken.is_run.Given as goal

abbrev pub invariant-loop-i : goal.invariant-loop-i
invariant-loop-i l = (i : ℕ) → i < l.i → place_at l.places i ≡ l.first + i
