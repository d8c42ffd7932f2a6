-- The name at the place, or none beyond the last.
use Rattle.std.proofs.Common.{◌≤◌, Some, length, sym, ap, ◌∙◌, slice_get, arith}
use Rattle.std.proofs.lemmas.Option.{slice_get_past}
use Rattle.awk_layout.specs.Typing.{layout_type}
use Rattle.awk_view.proofs.LeadingLaws.{absent-leading}
use Rattle.awk_view.proofs.found.first_absent.Goals as goal

pub returns-in_ok-copy : goal.returns-in_ok-copy
returns-in_ok-copy c =
    ap Some c.in_ok-copy.ensures ∙ sym c.get.ensures
    ∙ ap (slice_get c.args.names.now) c.in_ok-place.ensures
    ∙ absent-leading (layout_type c.args.x.now) c.args.names.now

pub returns-else-place-len : goal.returns-else-place-len
returns-else-place-len c =
    let past : length c.args.names.now ≤ c.in_ok-place.place =
    omega (arith, c.if-place-len.false, c.len.ensures) in
    sym (slice_get_past c.args.names.now c.in_ok-place.place past)
    ∙ ap (slice_get c.args.names.now) c.in_ok-place.ensures
    ∙ absent-leading (layout_type c.args.x.now) c.args.names.now
