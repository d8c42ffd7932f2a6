-- The type that a `Typ` is, and the fields that `Fields` are.
use Rattle.std.specs.Prelude.{◌<◌, List, map}
use Rattle.awk_types.specs.DataType.{Name, DataType, DataTypes, unknown, leaf, var, reg, rec, tup}
use Rattle.awk_types.specs.DataType.{opt, uni, types_from}
use Rattle.awk_types.specs.declared.typ.Typ.{Typ, size-Typ}
use Rattle.awk_types.specs.declared.typ.Typs.{Typs, size-Typs}
use Rattle.awk_types.specs.declared.typ.Field.{Field, size-Field}
use Rattle.awk_types.specs.declared.typ.Fields.{Fields, size-Fields}
use Rattle.awk_types.specs.declared.typ.Typ.TheOpen.{Typ-F, Field-F, Fields-F, Typs-F}
use Rattle.awk_types.specs.declared.typ.Typ.TheFolds.{fold-Typ, fold-Typs, fold-Field, fold-Fields}

-- a field is its name and its type
pub record NamedType : Type 0 where
  pub name : Name
  pub typ : DataType

abbrev pub names_of : List NamedType → List Name
names_of fields = map (λ f. f.name) fields

abbrev pub types_of : List NamedType → DataTypes
types_of fields = types_from (map (λ f. f.typ) fields)

abbrev pub typ_step : Typ-F DataType NamedType (List NamedType) (List DataType) → DataType
typ_step Typ-F.Unknown = unknown
typ_step (Typ-F.Leaf p) = leaf p
typ_step (Typ-F.Var t) = var t.value
typ_step (Typ-F.Reg n t) = reg n t.value
typ_step (Typ-F.Rec fields) = rec (names_of fields) (types_of fields)
typ_step (Typ-F.Tup ts) = tup (types_from ts)
typ_step (Typ-F.Opt t) = opt t.value
typ_step (Typ-F.Uni ts) = uni (types_from ts)

abbrev pub field_step : Field-F DataType NamedType (List NamedType) (List DataType) → NamedType
field_step f = record { name = f.name; typ = f.typ }

abbrev pub fields_step : Fields-F DataType NamedType (List NamedType) (List DataType)
    → List NamedType
fields_step f = f.items.items

abbrev pub typs_step : Typs-F DataType NamedType (List NamedType) (List DataType) → List DataType
typs_step f = f.items.items

abbrev pub typ_of : Typ → DataType
typ_of =
    fold-Typ DataType NamedType (List NamedType) (List DataType) typ_step field_step fields_step
    typs_step

abbrev pub field_of : Field → NamedType
field_of =
    fold-Field DataType NamedType (List NamedType) (List DataType) typ_step field_step fields_step
    typs_step

abbrev pub fields_of : Fields → List NamedType
fields_of =
    fold-Fields DataType NamedType (List NamedType) (List DataType) typ_step field_step fields_step
    typs_step

abbrev pub typs_of : Typs → List DataType
typs_of =
    fold-Typs DataType NamedType (List NamedType) (List DataType) typ_step field_step fields_step
    typs_step

-- a type that `get` hands out is smaller than the list: a recursion may go into it
abbrev pub Below : Typ → Typs → Type 0
Below t ts = size-Typ t < size-Typs ts

abbrev pub FieldBelow : Field → Fields → Type 0
FieldBelow field fields = size-Field field < size-Fields fields
