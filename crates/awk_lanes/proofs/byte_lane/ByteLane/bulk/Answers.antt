-- The bytes are known by the view, and the view by the bytes.
use Rattle.std.proofs.Common.{sym, arith}
use Rattle.awk_lanes.proofs.NumberParts.{opened, flat_map-numbers}
use Rattle.awk_lanes.proofs.byte_lane.ByteLane.bulk.Goals as goal

pub returns-clause-numbers : goal.returns-clause-numbers
returns-clause-numbers g c =
    let o = opened _ _ _ _ c.self.view_is in
    rw (← o.kind, ← o.count) o.items

pub returns-clause-size : goal.returns-clause-size
returns-clause-size g c =
    let o = opened _ _ _ _ c.self.view_is in
    rw (← o.kind, ← o.count) (sym c.self.invariant.0)

pub returns-clause-cost : goal.returns-clause-cost
returns-clause-cost g c =
    let o = opened _ _ _ _ c.self.view_is in
    omega arith

pub returns-clause-bytes : goal.returns-clause-bytes
returns-clause-bytes g c =
    let o = opened _ _ _ _ c.self.view_is in
    rw (← o.kind, ← o.items) (sym (flat_map-numbers c.self.inside.kind c.self.inside.count
    c.self.inside.bytes.now c.self.invariant.0 c.self.invariant.1))
