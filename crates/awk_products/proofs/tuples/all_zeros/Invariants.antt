use Rattle.std.specs.Prelude.{◌≡◌, replicate}
use Rattle.awk_products.specs.Sources.{zeros}
use Rattle.awk_products.proofs.tuples.all_zeros.Given as goal

abbrev pub invariant-loop-j : goal.invariant-loop-j
invariant-loop-j g l = l.lanes ≡ replicate l.j (zeros l.n)
