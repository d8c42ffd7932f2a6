use Rattle.std.specs.Prelude.{◌≡◌, ◌++◌, ◌-◌, ◌≤◌}
use Rattle.awk_places.specs.Products.{each_times}
use Rattle.awk_places.proofs.runs.put_each.Given as goal

abbrev pub invariant-loop-place : goal.invariant-loop-place
invariant-loop-place l = record {
  items : l.made ≡ l.fn.made ++ each_times l.after l.first (l.place - l.first);
  order : l.first ≤ l.place;
  top : l.place - l.first ≤ l.end - l.first;
}
