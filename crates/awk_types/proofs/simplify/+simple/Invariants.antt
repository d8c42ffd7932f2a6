use Rattle.std.proofs.Common.{◌≡◌, ◌++◌, ◌||◌, map}
use Rattle.std.specs.List.{list_any, flat_map}
use Rattle.awk_types.specs.DataType.{types_from}
use Rattle.awk_types.specs.Simple.{is_option, present_alternatives, simples}
use Rattle.awk_types.specs.View.{names_of, types_of, typ_of, field_of, fields_of, typs_of}
use Rattle.awk_types.proofs.simplify.+simple.Given as goal

abbrev pub invariant-simplified_all-loop-t : goal.invariant-simplified_all-loop-t
invariant-simplified_all-loop-t l =
    typs_of l.made ++ simples (types_from (map typ_of l.t-iterator.rest.items)) ≡ simples
    (types_from (typs_of l.fn.ts))

abbrev pub invariant-simplified_fields-loop-field : goal.invariant-simplified_fields-loop-field
invariant-simplified_fields-loop-field l =
    (names_of (fields_of l.made) ++ names_of (map field_of l.field-iterator.rest.items) ≡ names_of
    (fields_of l.fn.fields)) × (map (λ f. f.typ) (fields_of l.made) ++ simples
    (types_of (map field_of l.field-iterator.rest.items)) ≡ simples
    (types_of (fields_of l.fn.fields)))

abbrev pub invariant-splice_all-loop-t : goal.invariant-splice_all-loop-t
invariant-splice_all-loop-t l =
    let rest = simples (types_from (map typ_of l.t-iterator.rest.items)) in
    let all = simples (types_from (typs_of l.fn.ts)) in
    ((l.is_optional || list_any is_option rest) ≡ list_any is_option all) ×
    (typs_of l.made ++ flat_map present_alternatives rest ≡ typs_of l.fn.made ++ flat_map
    present_alternatives all)
