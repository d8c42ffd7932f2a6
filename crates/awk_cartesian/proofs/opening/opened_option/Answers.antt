use Rattle.awk_cartesian.proofs.OpeningLaws.{only_option}
use Rattle.awk_cartesian.proofs.opening.opened_option.Goals as goal

pub unreachable-requires : goal.unreachable-requires
unreachable-requires g c =
    only_option c.args.x.now c.in_ok-index.field-0 c.in_ok-index.ensures c.requires
    c.in_default.not-Option
