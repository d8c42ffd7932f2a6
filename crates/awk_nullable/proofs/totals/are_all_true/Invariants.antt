use Rattle.std.proofs.Common.{◌≡◌, ◌*◌}
use Rattle.std.specs.Prelude.{true}
use Rattle.std.specs.List.{list_all}
use Rattle.awk_lanes.specs.Numbers.{is_nonzero}
use Rattle.awk_nullable.specs.Numbers.{leaf_number, numbers_from}
use Rattle.awk_nullable.proofs.totals.are_all_true.Given as goal

abbrev pub invariant-loop-i : goal.invariant-loop-i
invariant-loop-i g l =
    list_all is_nonzero (numbers_from
    (leaf_number (g.P.Places.at l.x.places.now) (g.C.Cells.lane l.x.cells.now)) l.first
    (l.i * 64))
    ≡ true
