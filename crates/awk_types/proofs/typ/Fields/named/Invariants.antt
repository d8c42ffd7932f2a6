use Rattle.std.proofs.Common.{◌≡◌, ◌+◌, ◌++◌, length, map, take}
use Rattle.awk_types.specs.View.{names_of, typ_of, fields_of, typs_of}
use Rattle.awk_types.proofs.typ.Fields.named.Given as goal

abbrev pub invariant-loop-typ : goal.invariant-loop-typ
invariant-loop-typ l = record {
  names : names_of (fields_of l.made) ≡ take (length (fields_of l.made)) l.fn.names;
  types : map (λ f. f.typ) (fields_of l.made) ++ map typ_of l.typ-iterator.rest.items ≡ typs_of
      l.fn.types;
  count : length (fields_of l.made) + length l.typ-iterator.rest.items ≡ length l.fn.names;
}
