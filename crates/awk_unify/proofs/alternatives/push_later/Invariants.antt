use Rattle.std.proofs.Common.{◌≡◌, ◌++◌, drop}
use Rattle.awk_types.specs.View.{typs_of}
use Rattle.awk_unify.proofs.alternatives.push_later.Given as goal

abbrev pub invariant-loop-i : goal.invariant-loop-i
invariant-loop-i l =
    typs_of l.made ++ drop l.i (typs_of l.ts) ≡ typs_of l.fn.made ++ drop l.n (typs_of l.ts)
