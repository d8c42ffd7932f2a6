use Rattle.std.proofs.Common.{◌≡◌, map, take}
use Rattle.std.specs.Prelude.{not}
use Rattle.std.specs.List.{list_any, flat_map}
use Rattle.awk_lanes.specs.Numbers.{is_nonzero}
use Rattle.awk_cells.proofs.truths.are_blocks_zero.Given as goal

abbrev pub invariant-loop-i : goal.invariant-loop-i
invariant-loop-i g l = record {
  so_far : l.zero
      ≡ not (list_any is_nonzero (map g.C.Cell.number (flat_map (λ b. b) (take l.i l.blocks))));
}
