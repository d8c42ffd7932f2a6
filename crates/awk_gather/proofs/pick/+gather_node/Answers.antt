use Rattle.std.proofs.Common.{rules}
use Rattle.awk_layout.specs.Valid.{len}
use Rattle.awk_gather.proofs.PickedNodes.{regular_inner, regular_of, regular_blocks, regular_reach}
use Rattle.awk_gather.proofs.pick.+gather_node.Goals as goal

pub block_lane-requires-clause-blocks : goal.block_lane-requires-clause-blocks
block_lane-requires-clause-blocks g t c =
    regular_blocks c.in-Regular.size (len c.args.x.now) c.args.x.now c.in-Regular.content.now
    c.args.places.now c.in-Regular.ensures.class c.class.ensures.valid c.requires.places

pub gather_node-requires : goal.gather_node-requires
gather_node-requires g t c κs within =
    let f = regular_inner c.in-Regular.size (len c.args.x.now) c.args.x.now c.in-Regular.content.now
    c.args.places.now c.in_ok-inner-in-Regular.inner c.in-Regular.ensures.class
    c.class.ensures.valid c.requires.places c.in_ok-inner-in-Regular.ensures.lane in
    search rules

pub regular-requires-clause-valid : goal.regular-requires-clause-valid
regular-requires-clause-valid g t c =
    regular_reach c.in-Regular.size c.len-in-Regular-2.result c.in-Regular.content.now
    c.in_ok-gather_node-in-Regular.field-0 c.in_ok-part-in-Regular.part.value c.args.places.now
    c.in_ok-inner-in-Regular.inner c.in_ok-part-in-Regular.ensures.ok
    c.len-in-Regular-2.ensures.len c.in_ok-inner-in-Regular.ensures.lane
    c.in_ok-gather_node-in-Regular.ensures.node

pub returns-in_ok-part-in-Regular : goal.returns-in_ok-part-in-Regular
returns-in_ok-part-in-Regular g t c = record {
  node =
      regular_of c.in-Regular.size (len c.args.x.now) c.len-in-Regular-2.result c.args.x.now
      c.in-Regular.content.now c.in_ok-gather_node-in-Regular.field-0
      c.in_ok-part-in-Regular.part.value c.regular.result c.args.places.now
      c.in_ok-inner-in-Regular.inner c.in-Regular.ensures.class c.regular.ensures.node
      c.in_ok-part-in-Regular.ensures.ok c.len-in-Regular-2.ensures.len
      c.in_ok-inner-in-Regular.ensures.lane c.in_ok-gather_node-in-Regular.ensures.node;
}
