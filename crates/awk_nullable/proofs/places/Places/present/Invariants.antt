use Rattle.std.proofs.Common.{◌≡◌, ◌≤◌}
use Rattle.awk_nullable.specs.Numbers.{present_count}
use Rattle.awk_nullable.proofs.places.Places.present.Given as goal

abbrev pub invariant-loop-i : goal.invariant-loop-i
invariant-loop-i g l = record {
  present : l.present ≡ present_count (g.Self.Places.at l.self) l.first l.i;
  few : l.present ≤ l.i;
}
