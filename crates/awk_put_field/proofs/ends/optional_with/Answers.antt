use Rattle.awk_layout.specs.Typing.{array_type}
use Rattle.awk_open.proofs.OnlyKinds.{only_option}
use Rattle.awk_put_field.proofs.ends.optional_with.Goals as goal

pub under_option-requires-clause-opened : goal.under_option-requires-clause-opened
under_option-requires-clause-opened g c = rw c.in-Option.is at c.in_ok-index.ensures.opened

pub under_option-requires-clause-order : goal.under_option-requires-clause-order
under_option-requires-clause-order g c = rw c.in-Option.is at c.in_ok-index.ensures.order

pub unreachable-requires : goal.unreachable-requires
unreachable-requires g c =
    only_option (array_type c.args.records.now) c.in_ok-index.field-0
    c.in_ok-index.ensures.opened.kind c.requires.optional c.in_default.not-Option
