use Rattle.awk_cartesian.proofs.OpeningLaws.{only_lists}
use Rattle.awk_cartesian.proofs.opening.opened_lists.Goals as goal

pub unreachable-requires : goal.unreachable-requires
unreachable-requires g c =
    only_lists c.args.x.now c.in_ok-lists.field-0 c.in_ok-lists.ensures c.requires
    c.in_default.not-Items
