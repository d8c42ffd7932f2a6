use Rattle.awk_hist.proofs.RowLaws.{are_leaves, kind_numbers, number_parts, nulls_ready}
use Rattle.awk_hist.proofs.RowLaws.{of_sizes, binned_column}
use Rattle.awk_hist.proofs.rows.bins_node.Goals as goal

pub present_of-requires-clause-leaves : goal.present_of-requires-clause-leaves
present_of-requires-clause-leaves g c =
    let x = c.args.x.now in
    are_leaves x.items.now x.offsets.now x.count c.requires.items

pub null_lane-requires-clause-ready : goal.null_lane-requires-clause-ready
null_lane-requires-clause-ready g c =
    let x = c.args.x.now in
    nulls_ready x.items.now x.offsets.now x.count c.requires.items c.in_ok-present.present
    c.in_ok-present.ensures

pub bins_of-requires-clause-kind : goal.bins_of-requires-clause-kind
bins_of-requires-clause-kind g c =
    let x = c.args.x.now in
    kind_numbers x.items.now x.offsets.now x.count c.requires.items c.in_ok-present.present
    c.in_ok-present.ensures

pub bins_of-requires-clause-parts : goal.bins_of-requires-clause-parts
bins_of-requires-clause-parts g c =
    let x = c.args.x.now in
    number_parts x.items.now x.offsets.now x.count c.requires.items c.in_ok-present.present
    c.in_ok-present.ensures

pub row_node-requires : goal.row_node-requires
row_node-requires g c =
    let x = c.args.x.now in
    record {
      sizes = of_sizes x.items.now x.offsets.now x.count c.requires.items c.in_ok-present.present
          c.in_ok-present.ensures c.args.edges.now c.args.more c.in_ok-binned.binned
          c.in_ok-binned.ensures c.in_ok-nulls.nulls c.in_ok-nulls.ensures c.requires.few;
    }

pub returns : goal.returns
returns g c =
    let x = c.args.x.now in
    binned_column x.items.now x.offsets.now x.count c.requires.items c.in_ok-present.present
    c.in_ok-present.ensures c.args.edges.now c.args.more c.in_ok-binned.binned
    c.in_ok-binned.ensures c.in_ok-nulls.nulls c.in_ok-node.node c.in_ok-nulls.ensures
    c.in_ok-node.ensures c.len.ensures.valid
