-- The view has as many numbers as the lane counts, each in the range of its kind.
use Rattle.std.proofs.Common.{arith}
use Rattle.awk_lanes.proofs.NumberParts.{opened}
use Rattle.awk_lanes.proofs.RangeLaws.{opened_fit}
use Rattle.awk_lanes.proofs.byte_lane.ByteLane.len.Goals as goal

pub returns-clause-len : goal.returns-clause-len
returns-clause-len c = (opened _ _ _ _ c.self.view_is).count

pub returns-clause-fits : goal.returns-clause-fits
returns-clause-fits c = opened_fit _ _ _ _ c.self.invariant.1 c.self.view_is

pub returns-clause-small : goal.returns-clause-small
returns-clause-small c =
    let o = opened _ _ _ _ c.self.view_is in
    rw (← o.kind) (omega (arith, o.count, c.self.invariant.0))
