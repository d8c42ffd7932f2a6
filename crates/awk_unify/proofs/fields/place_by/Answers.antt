-- The place that the map tells is that of the name.
use Rattle.std.proofs.Common.{◌≡◌, ◌∙◌, ap₂, arith}
use Rattle.awk_types.specs.View.{fields_of, names_of}
use Rattle.awk_name_places.specs.Places as known
use Rattle.awk_name_places.specs.Places.{place_in}
use Rattle.awk_unify.proofs.NamePlaces.{place_in-known, place_in-≤}
use Rattle.awk_unify.proofs.fields.place_by.Goals as goal
use Rattle.awk_unify.proofs.fields.place_by.Goals.{After-place}

at_name : (c : After-place)
    → c.place.result ≡ place_in (names_of (fields_of c.args.xs.now)) c.args.name.now
at_name c =
    let shown = rw c.in-Some.is at c.requires in
    c.place.ensures
    ∙ ap₂ known.place_in shown c.as_str.ensures
    ∙ place_in-known (names_of (fields_of c.args.xs.now)) c.args.name.now

pub returns-in-Some-clause-at : goal.returns-in-Some-clause-at
returns-in-Some-clause-at c = at_name c

pub returns-in-Some-clause-within : goal.returns-in-Some-clause-within
returns-in-Some-clause-within c =
    omega (arith, at_name c, place_in-≤ (fields_of c.args.xs.now) c.args.name.now)
