use Rattle.std.proofs.Common.{ℕ, ◌<◌, get_or}
use Rattle.awk_places.specs.Products.{lengths_at}
use Rattle.awk_places.proofs.products.some_empty.Given as goal

abbrev pub invariant-loop-j : goal.invariant-loop-j
invariant-loop-j g l = (k : ℕ) → k < l.j → 0 < get_or (lengths_at l.lengths l.i) k 0
