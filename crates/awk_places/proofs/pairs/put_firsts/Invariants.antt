use Rattle.std.specs.Prelude.{◌≡◌, ◌++◌, ◌-◌, ◌≤◌}
use Rattle.std.specs.List.{range_with_len, flat_map}
use Rattle.awk_places.specs.Begun.{reserved}
use Rattle.awk_places.proofs.PairLaws.{firsts_at}
use Rattle.awk_places.proofs.pairs.put_firsts.Given as goal

abbrev pub invariant-loop-place : goal.invariant-loop-place
invariant-loop-place l = record {
  items : l.made ≡ l.fn.made ++ flat_map (firsts_at l.replacement l.begun.stop)
      (range_with_len l.begun.least (l.place - l.begun.least));
  order : l.begun.least ≤ l.place;
  top : l.place - l.begun.least ≤ l.begun.stop - reserved l.replacement 1 - l.begun.least;
}
