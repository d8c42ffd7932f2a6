use Rattle.std.proofs.Common.{◌≡◌, take}
use Rattle.awk_types.specs.View.{fields_of, names_of}
use Rattle.awk_unify.proofs.fields.field_names.Given as goal

abbrev pub invariant-loop-i : goal.invariant-loop-i
invariant-loop-i l = l.made ≡ names_of (take l.i (fields_of l.xs))
