use Rattle.std.proofs.Common.{◌≡◌, ◌<◌, ◌*◌, ℕ, get_or, false}
use Rattle.std.specs.Prelude.{pos}
use Rattle.awk_kernels.specs.Kernels.{is_outside}
use Rattle.awk_simd.proofs.searches.within.Given as goal

abbrev pub invariant-loop-n : goal.invariant-loop-n
invariant-loop-n l = (k : ℕ) → k < l.n * 8
    → is_outside l.fn.lo l.fn.hi (get_or l.xs k (pos 0)) ≡ false
