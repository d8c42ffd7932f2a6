use Rattle.std.proofs.Common.{List, ◌++◌, map, take}
use Rattle.std.specs.Prelude.{ℤ}
use Rattle.std.specs.List.{flat_map}
use Rattle.awk_cells.specs.Extremes.{IsExtreme}
use Rattle.awk_cells.proofs.short.short_in_blocks.Given as goal

abbrev pub invariant-loop-i : goal.invariant-loop-i
invariant-loop-i g l = record {
  extreme : (zs : List ℤ) → IsExtreme g.S.Side.how zs l.first
      → IsExtreme g.S.Side.how
      (zs ++ map g.C.Cell.number (flat_map (λ b. b) (take l.i l.blocks))) l.best;
}
