use Rattle.std.proofs.Common.{subst}
use Rattle.awk_layout.specs.Typing.{array_type}
use Rattle.awk_open.specs.Opened.{IsOpened}
use Rattle.awk_open.specs.declared.opening.Opened.TheVariants as opened
use Rattle.awk_open.proofs.OnlyKinds.{only_option}
use Rattle.awk_order.proofs.CellLaws.{optional_numbers}
use Rattle.awk_order.proofs.cells.optional_cells.Goals as goal

pub unreachable-requires : goal.unreachable-requires
unreachable-requires g c =
    only_option (array_type c.args.x.now) c.in_ok-index.field-0 c.in_ok-index.ensures.opened.kind
    c.requires.optional c.in_default.not-Option

pub returns : goal.returns
returns g c =
    let x = c.args.x.now in
    let opens : IsOpened x (opened.Option c.in-Option.index c.in-Option.content) =
    subst (IsOpened x) c.in-Option.is c.in_ok-index.ensures.opened in
    optional_numbers x c.in-Option.index c.in_ok-numbers_of-in-Option.field-0 c.in-Option.content
    opens c.in_ok-numbers_of-in-Option.ensures
