use Rattle.std.proofs.Common.{◌≡◌, ◌-◌, ◌^◌, ◌<◌, min, max, drop, map}
use Rattle.awk_types.specs.DataType.{greatest, depths, types_from}
use Rattle.awk_types.specs.View.{types_of, typ_of, field_of, fields_of, typs_of}
use Rattle.awk_types.proofs.measure.+depth.Given as goal

abbrev pub invariant-depth_of_fields-loop-field : goal.invariant-depth_of_fields-loop-field
invariant-depth_of_fields-loop-field l =
    (l.deepest < 2 ^ 64) × (min (max l.deepest
    (greatest (depths (types_of (map field_of (drop l.field-index l.field-items))))))
    (2 ^ 64 - 1) ≡ min (greatest (depths (types_of (fields_of l.fields)))) (2 ^ 64 - 1))

abbrev pub invariant-depth_of_typs-loop-t : goal.invariant-depth_of_typs-loop-t
invariant-depth_of_typs-loop-t l =
    (l.deepest < 2 ^ 64) × (min (max l.deepest
    (greatest (depths (types_from (map typ_of (drop l.t-index l.t-items)))))) (2 ^ 64 - 1) ≡ min
    (greatest (depths (types_from (typs_of l.ts)))) (2 ^ 64 - 1))
