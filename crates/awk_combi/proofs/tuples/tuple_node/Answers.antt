use Rattle.awk_combi.proofs.TupleLaws.{reach_slots, are_tuples}
use Rattle.awk_combi.proofs.tuples.tuple_node.Goals as goal

pub row-requires-clause-valid : goal.row-requires-clause-valid
row-requires-clause-valid g c =
    reach_slots c.args.places c.args.content.now c.args.made.now.total c.args.made.now.lanes
    c.in_ok-nodes.nodes c.requires.sizes c.in_ok-nodes.ensures

pub returns : goal.returns
returns g c =
    are_tuples c.args.places c.args.content.now c.args.made.now.total c.args.made.now.lanes
    c.in_ok-nodes.nodes c.row.result c.requires.few c.requires.sizes c.in_ok-nodes.ensures
    c.row.ensures.node
