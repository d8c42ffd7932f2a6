use Rattle.awk_layout.specs.Typing.{array_type}
use Rattle.awk_open.specs.Opened.{IsOpened}
use Rattle.awk_open.specs.declared.opening.Opened.TheVariants.{Option as Optional}
use Rattle.awk_open.proofs.OnlyKinds.{only_option}
use Rattle.awk_fill.proofs.FillLaws.{holds_whole}
use Rattle.awk_fill.proofs.parts.opened_parts.Goals as goal

pub returns : goal.returns
returns g c =
    let o : IsOpened c.args.x.now (Optional c.in-Option.index c.in-Option.content) =
    rw c.in-Option.is at c.in_ok-index.ensures.opened in
    holds_whole c.in-Option.index c.in-Option.content c.args.x.now o

pub unreachable-requires : goal.unreachable-requires
unreachable-requires g c =
    only_option (array_type c.args.x.now) c.in_ok-index.field-0 c.in_ok-index.ensures.opened.kind
    c.requires.option c.in_default.not-Option
