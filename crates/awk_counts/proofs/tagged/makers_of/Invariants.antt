use Rattle.std.proofs.Common.{◌≡◌, map, take}
use Rattle.awk_counts.specs.Counted.{begun}
use Rattle.awk_counts.proofs.tagged.makers_of.Given as goal

abbrev pub invariant-loop-n : goal.invariant-loop-n
invariant-loop-n l = l.makers.items ≡ map begun (take l.n-index l.sizes)
