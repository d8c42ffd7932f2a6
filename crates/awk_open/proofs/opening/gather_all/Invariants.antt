use Rattle.std.proofs.Common.{◌-◌, ◌≤◌, length, take}
use Rattle.awk_open.specs.Opened.{ArePicked}
use Rattle.awk_open.proofs.opening.gather_all.Given as goal

abbrev pub invariant-loop-i : goal.invariant-loop-i
invariant-loop-i g l = record {
  within : l.i ≤ length l.xs;
  columns : ArePicked (take l.i l.xs) l.places l.columns;
}

abbrev pub decreases-loop-i : goal.decreases-loop-i
decreases-loop-i g l = length l.xs - l.i
