use Rattle.std.proofs.Common.{◌≡◌, ◌<◌, ◌∷◌, Some, drop, map}
use Rattle.awk_types.specs.DataType.{greatest, depths, types_from}
use Rattle.awk_types.specs.Levels.{common_number, levels_each}
use Rattle.awk_types.specs.View.{types_of, typ_of, field_of, fields_of, typs_of}
use Rattle.awk_types.specs.declared.typ.Typ.TheViews.{out-Fields}
use Rattle.awk_types.proofs.level.+levels.Given as goal

-- the parts that are left decide, and are within the depth
abbrev pub invariant-levels_of_fields-loop-i : goal.invariant-levels_of_fields-loop-i
invariant-levels_of_fields-loop-i l =
    let rest = types_of (map field_of (drop l.i (out-Fields l.fields).items.items)) in
    (common_number (levels_each (types_of (fields_of l.fields)))
    ≡ common_number (Some l.first ∷ levels_each rest)) × (greatest (depths rest) < 60)

abbrev pub invariant-levels_of_typs-loop-i : goal.invariant-levels_of_typs-loop-i
invariant-levels_of_typs-loop-i l =
    let rest = types_from (map typ_of (drop l.i l.ts.items.items)) in
    (common_number (levels_each (types_from (typs_of l.ts)))
    ≡ common_number (Some l.first ∷ levels_each rest)) × (greatest (depths rest) < 60)
