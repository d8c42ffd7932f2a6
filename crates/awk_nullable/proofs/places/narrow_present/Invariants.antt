use Rattle.std.proofs.Common.{◌≡◌, ◌≤◌}
use Rattle.awk_lanes.specs.Places.{option_place_at}
use Rattle.awk_nullable.specs.Numbers.{present_count}
use Rattle.awk_nullable.proofs.places.narrow_present.Given as goal

abbrev pub invariant-loop-i : goal.invariant-loop-i
invariant-loop-i l = record {
  present : l.present ≡ present_count (option_place_at l.index) l.first l.i;
  few : l.present ≤ l.i;
}
