use Rattle.std.proofs.Common.{◌≡◌, ◌<◌, ◌*◌, ℕ, get_or, false}
use Rattle.std.specs.Prelude.{pos}
use Rattle.awk_kernels.specs.Kernels.{is_out_of_order}
use Rattle.awk_simd.proofs.searches.in_order.Given as goal

abbrev pub invariant-loop-n : goal.invariant-loop-n
invariant-loop-n l = (k : ℕ) → k < l.n * 8
    → is_out_of_order (get_or l.starts k (pos 0), get_or l.stops k (pos 0)) ≡ false
