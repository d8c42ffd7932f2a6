-- The place that the map tells is that of the name.
use Rattle.std.proofs.Common.{◌∙◌, ap}
use Rattle.awk_name_places.specs.Places as known
use Rattle.awk_view.proofs.LeadingLaws.{place_in-of}
use Rattle.awk_view.proofs.choice.place_by.Goals as goal

pub returns-in-Some : goal.returns-in-Some
returns-in-Some c =
    let shown = rw c.in-Some.is at c.requires in
    c.place.ensures ∙ ap (λ ns. known.place_in ns c.args.name.now) shown
    ∙ place_in-of c.args.names.now c.args.name.now
