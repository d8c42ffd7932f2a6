use Rattle.std.specs.Prelude.{◌≡◌, length}
use Rattle.awk_jagged_places.specs.Leaves.{mask_first}
use Rattle.awk_jagged_places.proofs.masks.KeptLengths.length.Given as goal

abbrev pub invariant-loop-k : goal.invariant-loop-k
invariant-loop-k g l = l.count ≡ length (mask_first l.self.xs.now l.self.ws.now l.i l.k)
