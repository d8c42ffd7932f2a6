use Rattle.std.proofs.Common.{◌≡◌, ◌-◌, ◌≤◌, length, take}
use Rattle.awk_layout.specs.Layout.{layouts_from}
use Rattle.awk_layout.specs.Valid.{AllValid}
use Rattle.awk_open.proofs.unions.arrays_within.Given as goal

abbrev pub invariant-loop-i : goal.invariant-loop-i
invariant-loop-i l = record {
  within : l.i ≤ length l.xs;
  arrays : l.arrays ≡ take l.i l.xs;
  valid : AllValid (layouts_from (take l.i l.xs));
}

abbrev pub decreases-loop-i : goal.decreases-loop-i
decreases-loop-i l = length l.xs - l.i
