use Rattle.awk_nulls.proofs.nulls.nulls_by.Goals as goal

pub returns : goal.returns
returns g c = rw c.size.ensures at c.made_lane.ensures.lane
