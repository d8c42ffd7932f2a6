use Rattle.std.proofs.Common.{◌≡◌, ◌++◌, drop, map}
use Rattle.awk_types.specs.View.{typ_of, field_of, fields_of, typs_of}
use Rattle.awk_types.proofs.+copy.Given as goal

abbrev pub invariant-typ::Fields::copy-loop-field : goal.invariant-typ::Fields::copy-loop-field
invariant-typ::Fields::copy-loop-field l =
    fields_of l.made ++ map field_of (drop l.field-index l.field-items) ≡ fields_of l.self

abbrev pub invariant-typ::Typs::copy-loop-t : goal.invariant-typ::Typs::copy-loop-t
invariant-typ::Typs::copy-loop-t l =
    typs_of l.made ++ map typ_of (drop l.t-index l.t-items) ≡ typs_of l.self
