use Rattle.std.proofs.Common.{◌≡◌, ◌+◌, ◌-◌, ◌^◌, ◌<◌, min, sum, drop, map}
use Rattle.awk_types.specs.DataType.{nodes_each, types_from}
use Rattle.awk_types.specs.View.{types_of, typ_of, field_of, fields_of, typs_of}
use Rattle.awk_types.proofs.measure.+nodes.Given as goal

abbrev pub invariant-nodes_of_fields-loop-field : goal.invariant-nodes_of_fields-loop-field
invariant-nodes_of_fields-loop-field l =
    (l.count < 2 ^ 64) × (min (l.count + sum (nodes_each
    (types_of (map field_of (drop l.field-index l.field-items))))) (2 ^ 64 - 1) ≡ min
    (sum (nodes_each (types_of (fields_of l.fields)))) (2 ^ 64 - 1))

abbrev pub invariant-nodes_of_typs-loop-t : goal.invariant-nodes_of_typs-loop-t
invariant-nodes_of_typs-loop-t l =
    (l.count < 2 ^ 64) × (min (l.count + sum (nodes_each
    (types_from (map typ_of (drop l.t-index l.t-items))))) (2 ^ 64 - 1) ≡ min
    (sum (nodes_each (types_from (typs_of l.ts)))) (2 ^ 64 - 1))
