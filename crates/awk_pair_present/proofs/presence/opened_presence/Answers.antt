use Rattle.std.proofs.Common.{sym, subst}
use Rattle.awk_lanes.specs.Column.{Column}
use Rattle.awk_layout.specs.Typing.{array_type}
use Rattle.awk_layout.specs.Valid.{len}
use Rattle.awk_open.specs.Inner.{IsInner}
use Rattle.awk_open.specs.Opened.{IsOpened}
use Rattle.awk_open.specs.declared.opening.Opened.TheVariants.{Option as Optional}
use Rattle.awk_open.proofs.OnlyKinds.{only_option}
use Rattle.awk_pair_present.specs.Presence.{IsPresence}
use Rattle.awk_pair_present.specs.declared.presence.Presence.TheVariants.{Indexed}
use Rattle.awk_pair_present.proofs.PresenceLaws.{indexed_presence}
use Rattle.awk_pair_present.proofs.presence.opened_presence.Goals as goal

pub of_lane-requires : goal.of_lane-requires
of_lane-requires g c =
    let o : IsOpened c.args.x.now (Optional c.in-Option.index c.in-Option.content) =
    rw c.in-Option.is at c.in_ok-index.ensures.opened in o.valid.1.kind

pub returns : goal.returns
returns g c =
    let o : IsOpened c.args.x.now (Optional c.in-Option.index c.in-Option.content) =
    rw c.in-Option.is at c.in_ok-index.ensures.opened in
    let i : IsInner (Optional c.in-Option.index c.in-Option.content) =
    rw c.in-Option.is at c.in_ok-index.ensures.inner in
    subst
    (λ (j : Column). IsPresence (len c.args.x.now) c.args.x.now (Indexed j c.in-Option.content))
    (sym c.in_ok-index-in-Option.ensures)
    (indexed_presence c.args.x.now c.in-Option.index c.in-Option.content o i)

pub unreachable-requires : goal.unreachable-requires
unreachable-requires g c =
    only_option (array_type c.args.x.now) c.in_ok-index.field-0 c.in_ok-index.ensures.opened.kind
    c.requires.option c.in_default.not-Option
