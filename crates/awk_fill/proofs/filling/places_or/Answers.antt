use Rattle.awk_lanes.proofs.PlaceLaws.{option-index}
use Rattle.awk_fill.proofs.filling.places_or.Goals as goal

pub index_of-requires : goal.index_of-requires
index_of-requires g c = option-index c.args.index.now.kind c.requires.index.kind

pub made_lane-requires-clause-ready : goal.made_lane-requires-clause-ready
made_lane-requires-clause-ready g c =
    (c.requires.fits, rw c.in_ok-index.ensures c.requires.index)

pub returns : goal.returns
returns g c = rw (c.len.ensures.len, c.in_ok-index.ensures) at c.made_lane.ensures.lane
