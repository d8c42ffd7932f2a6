use Rattle.std.proofs.Common.{◌≡◌}
use Rattle.awk_lanes.specs.Making.{with_items}
use Rattle.awk_merge_rows.specs.Present.{places_on}
use Rattle.awk_merge_rows.proofs.options.put_places.Given as goal

abbrev pub invariant-loop-i : goal.invariant-loop-i
invariant-loop-i l = l.maker ≡ with_items l.fn.maker (places_on l.first l.i)
