use Rattle.std.proofs.Common.{◌≡◌, ◌≤◌, arith}
use Rattle.awk_lanes.specs.Counted.{before}
use Rattle.awk_lanes.specs.Places.{size_of}
use Rattle.awk_columns.specs.Lists.{length_of}
use Rattle.awk_jagged_places.proofs.BesideLaws.{kept-within}
use Rattle.awk_jagged_places.proofs.room.room_beside.Goals as goal

pub returns-in-Some : goal.returns-in-Some
returns-in-Some g c =
    let n = size_of c.args.picks.now.ws.now.starts in
    let total : c.in-Some.total ≡ before (length_of c.args.picks.now.ws.now) n =
    rw c.in-Some.is at c.items_within.ensures.total in
    let within : c.in-Some.total ≤ c.min-most.result =
    rw c.in-Some.is at c.items_within.ensures.within in (
      omega (arith, total, kept-within c.args.picks.now.xs.now c.args.picks.now.ws.now n),
      omega (arith, within, c.min-most.ensures),
    )
