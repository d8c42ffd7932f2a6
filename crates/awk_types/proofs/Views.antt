-- The equations of `typ_of` and its like.
use Rattle.std.proofs.Common.{◌≡◌, ℕ, ◌<◌, List, ◌∷◌, map, drop, arith, length, slice_get, Some}
use Rattle.std.proofs.Common.{get_or, sym, ap, ◌∙◌}
use Rattle.std.proofs.lemmas.List.{length-map, drop_more}
use Rattle.awk_types.specs.DataType.{Name, DataType, tup, uni, rec, types_from}
use Rattle.awk_types.specs.View.{NamedType, names_of, types_of, typ_step, field_step, fields_step}
use Rattle.awk_types.specs.View.{typs_step, typ_of, field_of, fields_of, typs_of}
use Rattle.awk_types.specs.declared.name.Name.{Name as FieldName}
use Rattle.awk_base.proofs.Lists.{slice_get_of_map}
use Rattle.awk_types.specs.declared.typ.Typ.{Typ, Tup, Uni, Rec}
use Rattle.awk_types.specs.declared.typ.Typ.TheVariants.{rolls-Tup, rolls-Uni, rolls-Rec}
use Rattle.awk_types.specs.declared.typ.Typs.{Typs}
use Rattle.awk_types.specs.declared.typ.Field.{Field, roll-Field}
use Rattle.awk_types.specs.declared.typ.Fields.{Fields}
use Rattle.awk_types.specs.declared.typ.Typ.TheOpen.{Typ-F}
use Rattle.awk_types.specs.declared.typ.Typ.TheViews.{out-Typs, out-Field, out-Fields}
use Rattle.awk_types.specs.declared.typ.Typ.TheFolds.{fold-roll-Typ, fold-roll-Field, fold_out-Typs}
use Rattle.awk_types.specs.declared.typ.Typ.TheFolds.{fold_out-Field, fold_out-Fields}

pub typs_out : (ts : Typs) → typs_of ts ≡ map typ_of (out-Typs ts).items.items
typs_out =
    fold_out-Typs DataType NamedType (List NamedType) (List DataType) typ_step field_step
    fields_step typs_step

pub fields_out : (fs : Fields) → fields_of fs ≡ map field_of (out-Fields fs).items.items
fields_out =
    fold_out-Fields DataType NamedType (List NamedType) (List DataType) typ_step field_step
    fields_step typs_step

-- a field is its name and its type
pub field_of-out : (f : Field) → field_of f ≡ record
    { name = (out-Field f).name; typ = typ_of (out-Field f).typ }
field_of-out = fold_out-Field DataType NamedType (List NamedType) (List DataType) typ_step
    field_step fields_step typs_step

-- the variants that hold lists
pub typ_of-Tup : (ts : Typs) → typ_of (Tup ts) ≡ tup (types_from (typs_of ts))
typ_of-Tup ts =
    ap typ_of (sym (rolls-Tup ts)) ∙ fold-roll-Typ DataType NamedType (List NamedType)
    (List DataType) typ_step field_step fields_step typs_step (Typ-F.Tup ts)

pub typ_of-Uni : (ts : Typs) → typ_of (Uni ts) ≡ uni (types_from (typs_of ts))
typ_of-Uni ts =
    ap typ_of (sym (rolls-Uni ts)) ∙ fold-roll-Typ DataType NamedType (List NamedType)
    (List DataType) typ_step field_step fields_step typs_step (Typ-F.Uni ts)

pub typ_of-Rec : (fs : Fields)
    → typ_of (Rec fs) ≡ rec (names_of (fields_of fs)) (types_of (fields_of fs))
typ_of-Rec fs =
    ap typ_of (sym (rolls-Rec fs)) ∙ fold-roll-Typ DataType NamedType (List NamedType)
    (List DataType) typ_step field_step fields_step typs_step (Typ-F.Rec fs)

-- a field of a name and a type
abbrev pub named_type : Name → DataType → NamedType
named_type name typ = record { name = name; typ = typ }

pub field_of-roll : (name : FieldName) (typ : Typ) → field_of
    (roll-Field (record { name = name; typ = typ })) ≡ named_type name (typ_of typ)
field_of-roll name typ =
    fold-roll-Field DataType NamedType (List NamedType) (List DataType) typ_step field_step
    fields_step typs_step (record { name = name; typ = typ })

-- the item that `get` reads
pub typs_get : (ts : Typs) (i : ℕ) (x : Typ) → i < length (typs_of ts)
    → x ≡ get_or ts.items.items i x → slice_get (typs_of ts) i ≡ Some (typ_of x)
typs_get ts i x within read =
    rw (typs_out ts) (slice_get_of_map typ_of ts.items.items i x
    (omega (arith, ap length (typs_out ts), length-map ts.items.items typ_of)) read)

pub fields_get : (fs : Fields) (i : ℕ) (x : Field) → i < length (fields_of fs)
    → x ≡ get_or (out-Fields fs).items.items i x → slice_get (fields_of fs) i ≡ Some (field_of x)
fields_get fs i x within read =
    rw (fields_out fs) (slice_get_of_map field_of (out-Fields fs).items.items i x
    (omega (arith, ap length (fields_out fs), length-map (out-Fields fs).items.items field_of))
    read)

-- the first field, and those behind it
pub fields_first : (fs : Fields) (x : Field) → 0 < length (out-Fields fs).items.items
    → x ≡ get_or (out-Fields fs).items.items 0 x
    → fields_of fs ≡ field_of x ∷ map field_of (drop 1 (out-Fields fs).items.items)
fields_first fs x within read =
    let items = (out-Fields fs).items.items in
    fields_out fs
    ∙ ap (map field_of) (drop_more items 0 x within ∙ ap (λ y. y ∷ drop 1 items) (sym read))

-- its name
pub name_out : (f : Field) → (field_of f).name ≡ (out-Field f).name
name_out f = ap (λ x. x.name) (field_of-out f)
