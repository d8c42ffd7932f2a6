use Rattle.std.proofs.Common.{◌≡◌, drop}
use Rattle.std.specs.List.{list_all}
use Rattle.awk_types.specs.View.{fields_of, names_of}
use Rattle.awk_unify.specs.FieldNames.{is_in}
use Rattle.awk_unify.proofs.fields.are_found.Given as goal

abbrev pub invariant-loop-i : goal.invariant-loop-i
invariant-loop-i l =
    list_all (is_in (names_of (fields_of l.xs))) (names_of (drop l.i (fields_of l.ys)))
    ≡ list_all (is_in (names_of (fields_of l.xs))) (names_of (fields_of l.ys))
