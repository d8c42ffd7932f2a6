use Rattle.std.proofs.Common.{◌≡◌, max, drop, map}
use Rattle.awk_types.specs.DataType.{greatest, types_from}
use Rattle.awk_types.specs.Limit.{widths}
use Rattle.awk_types.specs.View.{types_of, typ_of, field_of, fields_of, typs_of}
use Rattle.awk_types.proofs.measure.+width.Given as goal

abbrev pub invariant-width_of_fields-loop-field : goal.invariant-width_of_fields-loop-field
invariant-width_of_fields-loop-field l =
    max l.widest (greatest (widths (types_of (map field_of (drop l.field-index l.field-items))))) ≡
    greatest (widths (types_of (fields_of l.fields)))

abbrev pub invariant-width_of_typs-loop-t : goal.invariant-width_of_typs-loop-t
invariant-width_of_typs-loop-t l =
    max l.widest (greatest (widths (types_from (map typ_of (drop l.t-index l.t-items))))) ≡ greatest
    (widths (types_from (typs_of l.ts)))
