use Rattle.std.proofs.Common.{w64}
use Rattle.std.proofs.lemmas.Int.{to_z-of_z}
use Rattle.awk_lanes.proofs.PlaceLaws.{option-index}
use Rattle.awk_fill.proofs.numbers.filled_lane.Goals as goal

pub filled_by-requires : goal.filled_by-requires
filled_by-requires g c = record { index = rw c.narrow_index-index.ensures c.requires.index }

pub returns-then-eq : goal.returns-then-eq
returns-then-eq g c =
    rw (c.narrow_index-index.ensures, to_z-of_z w64 c.args.filler c.ranges.filler)
    at c.filled_by.ensures

pub index_of-requires : goal.index_of-requires
index_of-requires g c = option-index c.args.index.now.kind c.requires.index.kind

pub filled_by-requires-2 : goal.filled_by-requires-2
filled_by-requires-2 g c = record { index = rw c.in_ok-index.ensures c.requires.index }

pub returns : goal.returns
returns g c =
    rw (c.in_ok-index.ensures, to_z-of_z w64 c.args.filler c.ranges.filler)
    at c.filled_by-2.ensures
