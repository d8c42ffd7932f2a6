use Rattle.std.proofs.Common.{◌≡◌, drop}
use Rattle.awk_types.specs.View.{fields_of, types_of}
use Rattle.awk_plain_columns.specs.Suited as spec
use Rattle.awk_plain_columns.proofs.suited.+has.Given as goal

-- the fields that are left decide
abbrev pub invariant-have_columns-loop-k : goal.invariant-have_columns-loop-k
invariant-have_columns-loop-k l =
    spec.have_columns (types_of (fields_of l.fields))
    ≡ spec.have_columns (types_of (drop l.k (fields_of l.fields)))
