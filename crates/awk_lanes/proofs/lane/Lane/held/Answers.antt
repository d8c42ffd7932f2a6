use Rattle.awk_lanes.proofs.lane.Lane.held.Goals as goal

pub returns : goal.returns
returns c = c.self.view_is
