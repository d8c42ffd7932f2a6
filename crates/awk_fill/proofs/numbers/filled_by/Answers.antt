use Rattle.std.proofs.Common.{w64}
use Rattle.std.proofs.lemmas.Int.{to_z-of_z}
use Rattle.awk_fill.proofs.numbers.filled_by.Goals as goal

pub returns : goal.returns
returns g c =
    rw (c.size.ensures, to_z-of_z w64 c.args.filler c.ranges.filler)
    at c.made_lane.ensures.lane
