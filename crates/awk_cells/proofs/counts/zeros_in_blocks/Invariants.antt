use Rattle.std.proofs.Common.{◌≡◌, ◌≤◌, ◌+◌, ◌*◌, length, map, take}
use Rattle.std.specs.List.{count_by, flat_map}
use Rattle.awk_lanes.specs.Numbers.{is_nonzero}
use Rattle.awk_cells.proofs.counts.zeros_in_blocks.Given as goal

abbrev pub invariant-loop-i : goal.invariant-loop-i
invariant-loop-i g l = record {
  count : l.zeros
      + count_by is_nonzero (map g.C.Cell.number (flat_map (λ b. b) (take l.i l.blocks)))
      ≡ length (flat_map (λ b. b) (take l.i l.blocks));
  few : l.zeros ≤ l.i * 8;
}
