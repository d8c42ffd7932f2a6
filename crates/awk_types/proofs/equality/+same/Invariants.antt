use Rattle.std.proofs.Common.{◌≡◌, ◌↔◌, drop, map, length}
use Rattle.awk_types.specs.View.{typ_of, field_of, fields_of, typs_of}
use Rattle.awk_types.specs.declared.typ.Typ.TheViews.{out-Fields}
use Rattle.awk_types.proofs.equality.+same.Given as goal

abbrev pub invariant-same_fields-loop-i : goal.invariant-same_fields-loop-i
invariant-same_fields-loop-i l =
    (length (out-Fields l.a).items.items ≡ length (out-Fields l.b).items.items) ×
    ((fields_of l.a ≡ fields_of l.b) ↔ (map field_of (drop l.i (out-Fields l.a).items.items) ≡ map
    field_of (drop l.i (out-Fields l.b).items.items)))

abbrev pub invariant-same_typs-loop-i : goal.invariant-same_typs-loop-i
invariant-same_typs-loop-i l =
    (length l.a.items.items ≡ length l.b.items.items) ×
    ((typs_of l.a ≡ typs_of l.b) ↔ (map typ_of (drop l.i l.a.items.items) ≡ map typ_of
    (drop l.i l.b.items.items)))
