use Rattle.std.proofs.Common.{◌≡◌, ◌*◌, ◌<◌, ℕ, get_or}
use Rattle.std.specs.Prelude.{pos}
use Rattle.awk_simd.specs.Flags.{flag}
use Rattle.awk_simd.proofs.comparisons.compare_mixed_blocks.Given as goal

abbrev pub invariant-loop-n : goal.invariant-loop-n
invariant-loop-n l = (k : ℕ) → k < l.n * 8
    → get_or l.out k 0 ≡ flag l.flags.less l.flags.equal l.flags.greater (get_or l.a k (pos 0))
    (pos (get_or l.b k 0))
