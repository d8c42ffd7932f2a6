-- The numbers are in the bytes.
use Rattle.std.proofs.Common.{sym, ◌∙◌}
use Rattle.awk_valid.proofs.BufferLaws.{lane_len-≤}
use Rattle.awk_valid.proofs.lanes.turned_lane.Goals as goal

pub returns-in-Some-clause-short : goal.returns-in-Some-clause-short
returns-in-Some-clause-short c =
    lane_len-≤ c.args.kind c.args.n c.args.bytes.now _ c.in-Some.lane
    (sym c.in-Some.is ∙ c.in_ok-lane.ensures)
