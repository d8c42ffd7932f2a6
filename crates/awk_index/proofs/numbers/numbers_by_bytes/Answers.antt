-- The numbers of the groups of bytes are the lane's.
use Rattle.std.proofs.Common.{◌≡◌, length, map, ◌/◌}
use Rattle.std.specs.Simd.{first_chunks}
use Rattle.awk_lanes.specs.Numbers.{width, number}
use Rattle.awk_lanes.proofs.NumberParts.{map-number_all}
use Rattle.awk_index.proofs.numbers.numbers_by_bytes.Goals as goal

pub returns-clause-numbers : goal.returns-clause-numbers
returns-clause-numbers g c =
    let all : map (number c.kind.result) (first_chunks (width c.kind.result)
    (length c.bulk.result.now / width c.kind.result) c.bulk.result.now) ≡
    c.args.lane.now.items =
    rw c.kind.ensures (map-number_all _ _ _ _ c.bulk.ensures.size c.bulk.ensures.numbers) in
    rw all at c.numbers_in.ensures
