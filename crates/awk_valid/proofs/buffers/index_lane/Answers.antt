-- A text, or a buffer, is no longer than all of them together.
use Rattle.std.proofs.Common.{arith}
use Rattle.awk_store.proofs.ByKeyLaws.{unread_len-≤}
use Rattle.awk_valid.proofs.buffers.index_lane.Goals as goal

pub returns-clause-cost : goal.returns-clause-cost
returns-clause-cost g c =
    omega (arith, c.lane_at.ensures.cost, unread_len-≤ c.args.store.now c.deref.result.now)
