use Rattle.std.specs.Prelude.{◌≡◌, ◌++◌, ◌-◌, ◌≤◌, map}
use Rattle.std.specs.List.{range_with_len}
use Rattle.awk_places.specs.Begun.{reserved}
use Rattle.awk_places.proofs.BegunLaws.{next_begun}
use Rattle.awk_places.proofs.begun.put_longer.Given as goal

abbrev pub invariant-loop-place : goal.invariant-loop-place
invariant-loop-place l = record {
  items : l.made.items ≡ l.fn.made.items ++ map (next_begun l.replacement l.begun.stop)
      (range_with_len l.begun.least (l.place - l.begun.least));
  order : l.begun.least ≤ l.place;
  top : l.place - l.begun.least
      ≤ l.begun.stop - reserved l.replacement l.left - l.begun.least;
}
