use Rattle.std.proofs.Common.{Some, None, arith}
use Rattle.awk_types.specs.ItemLimit.{item_limit}
use Rattle.awk_lanes.specs.Counted.{AreOffsetsBy}
use Rattle.awk_lanes.specs.Places.{size_of}
use Rattle.awk_jagged_places.specs.Beside.{kept_length}
use Rattle.awk_jagged_places.proofs.room.count_kept.Goals as goal

pub offsets_within-requires-clause-ready : goal.offsets_within-requires-clause-ready
offsets_within-requires-clause-ready g c = (c.requires.leaves, c.requires.alike)

pub returns-in-None : goal.returns-in-None
returns-in-None g c =
    let many : AreOffsetsBy item_limit
    (kept_length c.args.picks.now.xs.now c.args.picks.now.ws.now)
    (size_of c.args.picks.now.ws.now.starts) None =
    rw (c.in-None.is, c.len.ensures.len) at c.in_ok-offsets_within.ensures in
    many

pub returns-in-Some : goal.returns-in-Some
returns-in-Some g c =
    let few : AreOffsetsBy item_limit
    (kept_length c.args.picks.now.xs.now c.args.picks.now.ws.now)
    (size_of c.args.picks.now.ws.now.starts) (Some c.in-Some.offsets) =
    rw (c.in-Some.is, c.len.ensures.len) at c.in_ok-offsets_within.ensures in
    (omega (arith, few.0), omega (arith, few.0, few.1))
