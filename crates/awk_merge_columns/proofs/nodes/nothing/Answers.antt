use Rattle.awk_merge_sides.specs.Sides.{side_of, sides_of}
use Rattle.awk_merge_columns.proofs.MergedLaws.{none_unknown}
use Rattle.awk_merge_columns.proofs.nodes.nothing.Goals as goal

pub unreachable-requires : goal.unreachable-requires
unreachable-requires g c =
    none_unknown (sides_of c.args.sides.now) 0 (side_of c.get.result.now) c.get.ensures c.requires
    c.len-then-len-gt0.ensures.items
