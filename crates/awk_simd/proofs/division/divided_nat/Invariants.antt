use Rattle.std.proofs.Common.{◌≡◌, ◌<◌, ℕ, get_or}
use Rattle.std.specs.Prelude.{pos, Ok}
use Rattle.awk_kernels.specs.Operations.{leaf}
use Rattle.awk_simd.proofs.division.divided_nat.Given as goal

abbrev pub invariant-loop-i : goal.invariant-loop-i
invariant-loop-i l = (k : ℕ) → k < l.i
    → leaf l.fn.op (pos 0) (pos l.fn.hi) (pos (get_or l.a k 0)) (pos (get_or l.b k 0))
    ≡ Ok (pos (get_or l.out k 0))
