use Rattle.std.proofs.Common.{◌≡◌, ◌≤◌}
use Rattle.awk_types.specs.ItemLimit.{item_limit}
use Rattle.awk_places.specs.Paths.{paths}
use Rattle.awk_places.proofs.counts.count_paths.Given as goal

abbrev pub invariant-loop-j : goal.invariant-loop-j
invariant-loop-j l = record {
  count : l.count ≡ paths l.a l.j;
  within : l.count ≤ item_limit;
}
