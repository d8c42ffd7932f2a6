use Rattle.std.proofs.Common.{◌*◌}
use Rattle.awk_pointwise.specs.Blocks.{IsSoFar}
use Rattle.awk_pointwise.proofs.blocks.add_blocks.Given as goal

abbrev pub invariant-loop-i : goal.invariant-loop-i
invariant-loop-i g l =
    IsSoFar (g.S.Blocks.results l.source) (g.S.Blocks.kind l.source) (l.i * 2048) l.bytes.items
