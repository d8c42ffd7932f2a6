use Rattle.awk_open.proofs.OpenedKinds.{opened_leaf}
use Rattle.awk_open.proofs.opening.open_leaf.Goals as goal

pub returns : goal.returns
returns g c = record {
  opened = opened_leaf c.args.lane.now c.args.places.now c.in_ok-lane.lane
      c.requires.small c.in_ok-lane.ensures.lane;
}
