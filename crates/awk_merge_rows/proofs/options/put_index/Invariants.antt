use Rattle.std.proofs.Common.{◌≡◌, map}
use Rattle.std.specs.List.{range_with_len}
use Rattle.awk_lanes.specs.Making.{with_items}
use Rattle.awk_lanes.specs.Places.{option_place_at}
use Rattle.awk_merge_rows.specs.Present.{moved}
use Rattle.awk_merge_rows.proofs.options.put_index.Given as goal

abbrev pub invariant-loop-i : goal.invariant-loop-i
invariant-loop-i g l =
    l.maker ≡ with_items l.fn.maker
    (map (λ i. moved l.first (option_place_at l.index i)) (range_with_len 0 l.i))
