use Rattle.std.specs.Prelude.{ℕ, ◌<◌, ◌<ℤ◌, pos}
use Rattle.awk_lanes.specs.Places.{at}
use Rattle.awk_open.proofs.unions.first_present.Given as goal

abbrev pub invariant-loop-i : goal.invariant-loop-i
invariant-loop-i g l = (j : ℕ) → j < l.i → at l.index j <ℤ pos 0
