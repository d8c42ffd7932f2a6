use Rattle.std.proofs.Common.{◌≡◌, ◌≤◌, take}
use Rattle.std.specs.List.{count_by}
use Rattle.awk_numbers.specs.Places.{is_place}
use Rattle.awk_numbers.proofs.places.places_in.Given as goal

abbrev pub invariant-loop-i : goal.invariant-loop-i
invariant-loop-i g l = record {
  count : l.count ≡ count_by is_place (take l.i (g.R.Row.numbers l.row));
  few : l.count ≤ l.i;
}
