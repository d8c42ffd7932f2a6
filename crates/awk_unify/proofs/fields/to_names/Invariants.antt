use Rattle.std.proofs.Common.{◌≡◌, map, take}
use Rattle.awk_types.specs.View.{fields_of, names_of}
use Rattle.awk_name_places.specs.Places.{place_in}
use Rattle.awk_unify.specs.Carries.{carry_at}
use Rattle.awk_unify.specs.View.{lifts_of}
use Rattle.awk_unify.proofs.fields.to_names.Given as goal

abbrev pub invariant-loop-i : goal.invariant-loop-i
invariant-loop-i l =
    let ns = names_of (fields_of l.xs) in
    let done = names_of (take l.i (fields_of l.ys)) in
    (l.places ≡ map (place_in ns) done)
    × (lifts_of l.parts ≡ map (λ m. carry_at (lifts_of l.rights) (place_in ns m)) done)
