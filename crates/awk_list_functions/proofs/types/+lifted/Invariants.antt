use Rattle.std.proofs.Common.{◌≡◌, ◌++◌, drop, map}
use Rattle.awk_types.specs.DataType.{types_from}
use Rattle.awk_types.specs.View.{names_of, types_of, fields_of, typs_of}
use Rattle.awk_list_functions.specs.Lift.{lifted_types as lifted_each}
use Rattle.awk_list_functions.proofs.types.+lifted.Given as goal

abbrev pub invariant-lifted_types-loop-i : goal.invariant-lifted_types-loop-i
invariant-lifted_types-loop-i g l =
    let giving = (g.F.ListOp.function l.f).giving in
    typs_of l.made ++ lifted_each giving l.k (types_from (drop l.i (typs_of l.ts))) ≡ lifted_each
    giving l.k (types_from (typs_of l.ts))

abbrev pub invariant-lifted_fields-loop-i : goal.invariant-lifted_fields-loop-i
invariant-lifted_fields-loop-i g l =
    let giving = (g.F.ListOp.function l.f).giving in
    (names_of (fields_of l.made) ++ names_of (drop l.i (fields_of l.fields)) ≡ names_of
    (fields_of l.fields)) × (map (λ f. f.typ) (fields_of l.made) ++ lifted_each giving l.k
    (types_of (drop l.i (fields_of l.fields))) ≡ lifted_each giving l.k
    (types_of (fields_of l.fields)))
