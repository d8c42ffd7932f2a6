use Rattle.std.specs.Prelude.{◌≡◌, ◌++◌, ◌-◌, ◌≤◌}
use Rattle.std.specs.List.{range_with_len}
use Rattle.awk_places.proofs.maker.put_places.Given as goal

abbrev pub invariant-loop-place : goal.invariant-loop-place
invariant-loop-place l = record {
  items : l.made ≡ l.fn.made ++ range_with_len l.first (l.place - l.first);
  order : l.first ≤ l.place;
  top : l.place - l.first ≤ l.end - l.first;
}
