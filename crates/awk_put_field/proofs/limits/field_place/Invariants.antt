use Rattle.std.proofs.Common.{◌≡◌, ◌+◌, drop}
use Rattle.awk_types.specs.Names.{place_of}
use Rattle.awk_types.specs.View.{fields_of, names_of}
use Rattle.awk_put_field.proofs.limits.field_place.Given as goal

abbrev pub invariant-loop-i : goal.invariant-loop-i
invariant-loop-i l =
    place_of l.name (names_of (fields_of l.fields))
    ≡ l.i + place_of l.name (names_of (drop l.i (fields_of l.fields)))
