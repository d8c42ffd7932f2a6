use Rattle.std.proofs.Common.{◌≡◌, ◌<◌, ℕ, get_or}
use Rattle.std.specs.Prelude.{pos, Ok}
use Rattle.awk_kernels.specs.Operations.{leaf}
use Rattle.awk_simd.proofs.division.divided.Given as goal

abbrev pub invariant-loop-i : goal.invariant-loop-i
invariant-loop-i l = (k : ℕ) → k < l.i
    → leaf l.fn.op l.fn.lo l.fn.hi (get_or l.a k (pos 0)) (get_or l.b k (pos 0))
    ≡ Ok (get_or l.out k (pos 0))
