use Rattle.awk_pointwise.proofs.selection.lanes_of.Goals as goal

pub returns : goal.returns
returns c = record { first = c.in_ok-x.ensures; second = c.in_ok-y.ensures }
