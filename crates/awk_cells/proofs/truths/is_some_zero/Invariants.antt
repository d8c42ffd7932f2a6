use Rattle.std.proofs.Common.{◌≡◌, map, take}
use Rattle.std.specs.Prelude.{not}
use Rattle.std.specs.List.{list_all}
use Rattle.awk_lanes.specs.Numbers.{is_nonzero}
use Rattle.awk_cells.proofs.truths.is_some_zero.Given as goal

abbrev pub invariant-loop-i : goal.invariant-loop-i
invariant-loop-i g l = record {
  so_far : l.found ≡ not (list_all is_nonzero (take l.i (map g.C.Cell.number l.groups)));
}
