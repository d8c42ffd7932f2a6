use Rattle.std.proofs.Common.{◌≡◌, ◌+◌, drop}
use Rattle.awk_types.specs.View.{fields_of, names_of}
use Rattle.awk_name_places.specs.Places.{place_in}
use Rattle.awk_unify.proofs.fields.place.Given as goal

abbrev pub invariant-loop-i : goal.invariant-loop-i
invariant-loop-i l =
    l.i + place_in (names_of (drop l.i (fields_of l.xs))) l.name
    ≡ place_in (names_of (fields_of l.xs)) l.name
