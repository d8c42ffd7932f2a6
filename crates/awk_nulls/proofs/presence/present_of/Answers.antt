use Rattle.std.proofs.Common.{◌≡◌, ap, sym, ◌∙◌}
use Rattle.std.specs.Prelude.{false}
use Rattle.awk_types.specs.Simple.{is_option}
use Rattle.awk_layout.specs.Typing.{array_type}
use Rattle.awk_nulls.proofs.PresentLaws.{whole_present, option_fits}
use Rattle.awk_nulls.proofs.presence.present_of.Goals as goal

pub returns-then-not-is_optional : goal.returns-then-not-is_optional
returns-then-not-is_optional g c =
    let n : is_option (array_type c.args.x.now) ≡ false =
    sym (c.is_optional.ensures ∙ ap is_option c.typ.ensures.typ) ∙ c.if-not-is_optional.true in
    rw (c.in_ok-counts.ensures, c.in_ok-content.ensures, c.len-n.ensures.len)
    (whole_present c.args.x.now c.len-n.ensures.valid n c.len-n.ensures.items)

pub present_counts-requires-clause-kind : goal.present_counts-requires-clause-kind
present_counts-requires-clause-kind g c = c.in_ok-items.ensures.kind

pub present_counts-requires-clause-fits : goal.present_counts-requires-clause-fits
present_counts-requires-clause-fits g c =
    option_fits c.args.x.now c.in_ok-items.items.index c.in_ok-items.items.content
    c.len-n.ensures.valid c.in_ok-items.ensures

pub returns : goal.returns
returns g c = rw c.in_ok-counts-2.ensures c.in_ok-items.ensures.present
