use Rattle.std.proofs.Common.{◌≡◌, ◌++◌, drop}
use Rattle.awk_types.specs.View.{names_of, fields_of}
use Rattle.awk_pack.proofs.form.names_of.Given as goal

-- the names so far, and those of the rest
abbrev pub invariant-loop-i : goal.invariant-loop-i
invariant-loop-i l =
    l.names ++ names_of (drop l.i (fields_of l.fields)) ≡ names_of (fields_of l.fields)
