-- A place below n is its own number.
use Rattle.awk_lanes.proofs.RunLaws.{from_zero}
use Rattle.awk_lanes.proofs.in_order.ordinals.Goals as goal

pub returns : goal.returns
returns g c = rw (← from_zero c.args.n) c.run_lane.ensures
