use Rattle.awk_layout.specs.Typing.{array_type}
use Rattle.awk_open.proofs.OnlyKinds.{only_option}
use Rattle.awk_pair_present.proofs.present.numbers_in_order.Goals as goal

pub unreachable-requires : goal.unreachable-requires
unreachable-requires g c =
    only_option (array_type c.args.x.now) c.in_ok-index.field-0 c.in_ok-index.ensures.opened.kind
    c.requires.option c.in_default.not-Option
