use Rattle.std.proofs.Common.{Some}
use Rattle.awk_types.specs.ItemLimit.{item_limit}
use Rattle.awk_lanes.specs.Counted.{AreOffsetsBy}
use Rattle.awk_places.specs.Products.{product_count}
use Rattle.awk_products.proofs.SlotLaws.{all_counts, lanes_long, are_lanes}
use Rattle.awk_products.proofs.TupleLaws.{reach, tuples_made}
use Rattle.awk_products.proofs.tuples.tuples_of.Goals as goal

pub product_offsets-requires-clause-lengths : goal.product_offsets-requires-clause-lengths
product_offsets-requires-clause-lengths g c = all_counts c.args.n c.args.x.now c.requires.sources

pub slot_nodes-requires-clause-same : goal.slot_nodes-requires-clause-same
slot_nodes-requires-clause-same g c =
    lanes_long c.args.n c.args.x.now c.requires.sources c.args.places c.in_ok-lanes.lanes
    c.in_ok-lanes.ensures

pub slot_nodes-requires-clause-lanes : goal.slot_nodes-requires-clause-lanes
slot_nodes-requires-clause-lanes g c =
    let o : AreOffsetsBy item_limit (product_count c.args.x.now.lengths) c.args.n
    (Some c.in-Some.offsets) = rw c.in-Some.is at c.in_ok-offsets.ensures in
    are_lanes c.args.n c.args.x.now c.requires.sources c.args.places c.in_ok-lanes.lanes
    c.in_ok-lanes.ensures o.1

pub row-requires-clause-valid : goal.row-requires-clause-valid
row-requires-clause-valid g c =
    let o : AreOffsetsBy item_limit (product_count c.args.x.now.lengths) c.args.n
    (Some c.in-Some.offsets) = rw c.in-Some.is at c.in_ok-offsets.ensures in
    reach c.args.places c.args.n c.args.x.now c.requires.sources c.in_ok-lanes.lanes
    c.in_ok-nodes.nodes c.in_ok-lanes.ensures c.in_ok-nodes.ensures c.in-Some.offsets.total o.0

pub returns : goal.returns
returns g c =
    let o : AreOffsetsBy item_limit (product_count c.args.x.now.lengths) c.args.n
    (Some c.in-Some.offsets) = rw c.in-Some.is at c.in_ok-offsets.ensures in
    tuples_made c.args.places c.args.n c.args.x.now c.requires.sources c.in_ok-lanes.lanes
    c.in_ok-nodes.nodes c.in_ok-lanes.ensures c.in_ok-nodes.ensures
    (record { offsets = c.in-Some.offsets.lane; node = c.row.result }) c.in-Some.offsets.total o.0
    o.1 o.2 c.row.ensures.node
