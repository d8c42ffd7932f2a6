use Rattle.std.proofs.Common.{◌≤◌}
use Rattle.awk_nullable.proofs.places.present_of_64.Given as goal

abbrev pub invariant-loop-i : goal.invariant-loop-i
invariant-loop-i g l = l.present ≤ l.i
