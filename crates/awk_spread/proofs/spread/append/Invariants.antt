use Rattle.std.proofs.Common.{◌≡◌, ◌-◌, ◌≤◌, ◌++◌, length, take}
use Rattle.awk_spread.proofs.spread.append.Given as goal

abbrev pub invariant-loop-i : goal.invariant-loop-i
invariant-loop-i l = record {
  within : l.i ≤ length l.from;
  items : l.into ≡ l.initial.into ++ take l.i l.from;
}

abbrev pub decreases-loop-i : goal.decreases-loop-i
decreases-loop-i l = length l.from - l.i
