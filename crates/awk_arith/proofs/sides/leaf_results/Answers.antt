use Rattle.std.proofs.Common.{sym}
use Rattle.awk_arith.proofs.sides.leaf_results.Goals as goal

pub unary_leaves-requires : goal.unary_leaves-requires
unary_leaves-requires g c =
    (c.column_side.ensures c.len-n.result c.args.leaf.now (sym c.len-n.ensures.len)
    c.in_ok-lane.ensures).side
