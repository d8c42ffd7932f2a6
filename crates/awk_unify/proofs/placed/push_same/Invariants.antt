use Rattle.std.proofs.Common.{◌≡◌, ◌++◌}
use Rattle.awk_unify.specs.Carries.{kept_each}
use Rattle.awk_unify.specs.View.{lifts_of}
use Rattle.awk_unify.proofs.placed.push_same.Given as goal

abbrev pub invariant-loop-i : goal.invariant-loop-i
invariant-loop-i l = lifts_of l.made ≡ lifts_of l.fn.made ++ kept_each l.i
