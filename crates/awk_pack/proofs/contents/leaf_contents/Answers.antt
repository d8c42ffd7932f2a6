use Rattle.awk_pack.proofs.ContentLaws.{left_leaf}
use Rattle.awk_pack.proofs.contents.leaf_contents.Goals as goal

pub returns : goal.returns
returns g c = record {
  left = λ t vs h. left_leaf t vs c.args.lanes.now c.push.new.self c.new.result c.args.lane.now
      c.in_ok-leaf_lane.field-0 h c.in_ok-leaf_lane.ensures c.in_ok-push.ensures.ok c.new.ensures;
}
