-- The types of rows that are optional.
use Rattle.std.specs.Prelude.{◌≡◌, Option, Some, None, option_map, refl, List}
use Rattle.std.proofs.Common.{Box, Global, ap, sym, ◌∙◌}
use Rattle.awk_types.specs.DataType.{DataType, unknown, leaf, var, reg, rec, tup, opt, uni}
use Rattle.awk_types.specs.Parts.{list_item}
use Rattle.awk_types.specs.View.{NamedType, typ_step, field_step, fields_step, typs_step, typ_of}
use Rattle.awk_types.specs.declared.typ.Typ.{Typ, Opt}
use Rattle.awk_types.specs.declared.typ.Typ.TheVariants.{rolls-Opt}
use Rattle.awk_types.specs.declared.typ.Typ.TheOpen.{Typ-F}
use Rattle.awk_types.specs.declared.typ.Typ.TheFolds.{fold-roll-Typ}
use Rattle.awk_jagged.specs.Jagged.{rows_type}
use Rattle.awk_jagged_rows.specs.RowTypes.{rows_of}
use Rattle.awk_jagged.specs.Judged.{list_pick}

typ_of-Opt : (b : Box Typ Global) → typ_of (Opt b) ≡ opt (typ_of b.value)
typ_of-Opt b = ap typ_of (sym (rolls-Opt b))
    ∙ fold-roll-Typ DataType NamedType (List NamedType) (List DataType) typ_step field_step
    fields_step typs_step (Typ-F.Opt b)

map_twice : (o : Option DataType)
    → option_map (λ r. opt (var r)) o ≡ option_map opt (option_map var o)
map_twice None = refl
map_twice (Some t) = refl

rows_of-opt : (t : DataType) (f : DataType → Option DataType)
    → rows_type (rows_of (opt t)) f ≡ option_map opt (list_pick (list_item t) f)
rows_of-opt unknown f = map_twice (f unknown)
rows_of-opt (leaf p) f = refl
rows_of-opt (var t) f = map_twice (f t)
rows_of-opt (reg n t) f = map_twice (f t)
rows_of-opt (rec ns ts) f = refl
rows_of-opt (tup ts) f = refl
rows_of-opt (opt t) f = refl
rows_of-opt (uni ts) f = refl

pub rows_by_opt : (t : Typ) (b : Box Typ Global) (v : Typ) (f : DataType → Option DataType)
    → t ≡ Opt b → v ≡ b.value
    → option_map opt (list_pick (list_item (typ_of v)) f) ≡ rows_type (rows_of (typ_of t)) f
rows_by_opt t b v f is e =
    ap (λ w. option_map opt (list_pick (list_item (typ_of w)) f)) e
    ∙ sym (ap (λ w. rows_type (rows_of (typ_of w)) f) is
    ∙ ap (λ w. rows_type (rows_of w) f) (typ_of-Opt b)
    ∙ rows_of-opt (typ_of b.value) f)
