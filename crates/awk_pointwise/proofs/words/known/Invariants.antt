use Rattle.std.proofs.Common.{ℕ, ◌<◌, get_or, w64}
use Rattle.std.specs.Prelude.{pos, FitsSigned}
use Rattle.awk_pointwise.proofs.words.known.Given as goal

abbrev pub invariant-loop-i : goal.invariant-loop-i
invariant-loop-i l = (k : ℕ) → k < l.i → FitsSigned w64 (get_or l.items k (pos 0))
