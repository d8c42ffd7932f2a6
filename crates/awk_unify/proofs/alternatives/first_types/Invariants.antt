use Rattle.std.proofs.Common.{◌≡◌, take}
use Rattle.awk_types.specs.View.{typs_of}
use Rattle.awk_unify.proofs.alternatives.first_types.Given as goal

abbrev pub invariant-loop-i : goal.invariant-loop-i
invariant-loop-i l = typs_of l.made ≡ take l.i (typs_of l.ts)
