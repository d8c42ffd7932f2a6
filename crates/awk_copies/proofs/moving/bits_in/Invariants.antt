use Rattle.std.proofs.Common.{◌≡◌, ◌*◌, map}
use Rattle.std.specs.List.{range_with_len}
use Rattle.awk_copies.specs.Moved.{eight}
use Rattle.awk_copies.proofs.moving.bits_in.Given as goal

abbrev pub invariant-loop-k : goal.invariant-loop-k
invariant-loop-k g l = l.copied.items ≡ map (λ k. eight l.bits (8 * k)) (range_with_len 0 l.k)
