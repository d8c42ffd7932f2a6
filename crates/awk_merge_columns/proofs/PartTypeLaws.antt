-- The types of parts and alternatives, as they are read.
use Rattle.std.proofs.Common.{◌≡◌, ◌<◌, ℕ, Some, length, map, slice_get, ap, sym, subst, ◌∙◌, arith}
use Rattle.std.proofs.lemmas.List.{length-map}
use Rattle.std.proofs.lemmas.Option.{slice_get-map}
use Rattle.std.specs.Prelude.{option_map}
use Rattle.awk_types.proofs.Trees.{type_list-from}
use Rattle.awk_types.proofs.Views.{typ_of-Rec, typ_of-Tup, typ_of-Uni}
use Rattle.awk_types.specs.DataType.{DataType}
use Rattle.awk_types.specs.View.{field_of, fields_of, typ_of, typs_of}
use Rattle.awk_types.specs.declared.typ.Field.{Field}
use Rattle.awk_types.specs.declared.typ.Fields.{Fields}
use Rattle.awk_types.specs.declared.typ.Typ.{Rec, Tup, Typ, Uni}
use Rattle.awk_types.specs.declared.typ.Typ.TheViews.{out-Field}
use Rattle.awk_types.specs.declared.typ.Typs.{Typs}
use Rattle.awk_unify.proofs.NamePlaces.{typ_out}
use Rattle.awk_merge_columns.specs.PartTypes.{part_types}

tuple_parts : (t : Typ) (ts : Typs) → t ≡ Tup ts → part_types (typ_of t) ≡ typs_of ts
tuple_parts t ts e =
    ap (λ u. part_types (typ_of u)) e ∙ ap part_types (typ_of-Tup ts) ∙ type_list-from (typs_of ts)

union_parts : (t : Typ) (ts : Typs) → t ≡ Uni ts → part_types (typ_of t) ≡ typs_of ts
union_parts t ts e =
    ap (λ u. part_types (typ_of u)) e ∙ ap part_types (typ_of-Uni ts) ∙ type_list-from (typs_of ts)

record_parts : (t : Typ) (fs : Fields) → t ≡ Rec fs
    → part_types (typ_of t) ≡ map (λ f. f.typ) (fields_of fs)
record_parts t fs e =
    ap (λ u. part_types (typ_of u)) e ∙ ap part_types (typ_of-Rec fs)
    ∙ type_list-from (map (λ f. f.typ) (fields_of fs))

-- a place of the parts is one of what the variant holds
pub within-Tup : (t : Typ) (ts : Typs) (j : ℕ) → t ≡ Tup ts → j < length (part_types (typ_of t))
    → j < length (typs_of ts)
within-Tup t ts j e h = subst (λ us. j < length us) (tuple_parts t ts e) h

pub within-Uni : (t : Typ) (ts : Typs) (j : ℕ) → t ≡ Uni ts → j < length (part_types (typ_of t))
    → j < length (typs_of ts)
within-Uni t ts j e h = subst (λ us. j < length us) (union_parts t ts e) h

pub within-Rec : (t : Typ) (fs : Fields) (j : ℕ) → t ≡ Rec fs → j < length (part_types (typ_of t))
    → j < length (fields_of fs)
within-Rec t fs j e h =
    let l : j < length (map (λ f. f.typ) (fields_of fs))
    = subst (λ us. j < length us) (record_parts t fs e) h in
    omega (arith, l, length-map (fields_of fs) (λ f. f.typ))

-- and what stands there is its type
pub read-Tup : (t : Typ) (ts : Typs) (j : ℕ) (u : DataType) → t ≡ Tup ts
    → slice_get (typs_of ts) j ≡ Some u → slice_get (part_types (typ_of t)) j ≡ Some u
read-Tup t ts j u e h = subst (λ us. slice_get us j ≡ Some u) (sym (tuple_parts t ts e)) h

pub read-Uni : (t : Typ) (ts : Typs) (j : ℕ) (u : DataType) → t ≡ Uni ts
    → slice_get (typs_of ts) j ≡ Some u → slice_get (part_types (typ_of t)) j ≡ Some u
read-Uni t ts j u e h = subst (λ us. slice_get us j ≡ Some u) (sym (union_parts t ts e)) h

pub read-Rec : (t : Typ) (fs : Fields) (j : ℕ) (f : Field) → t ≡ Rec fs
    → slice_get (fields_of fs) j ≡ Some (field_of f)
    → slice_get (part_types (typ_of t)) j ≡ Some (typ_of (out-Field f).typ)
read-Rec t fs j f e h =
    let one : slice_get (map (λ g. g.typ) (fields_of fs)) j ≡ Some (field_of f).typ
    = slice_get-map (λ g. g.typ) (fields_of fs) j ∙ ap (option_map (λ g. g.typ)) h in
    subst (λ us. slice_get us j ≡ Some (typ_of (out-Field f).typ)) (sym (record_parts t fs e))
    (one ∙ ap Some (typ_out f))

pub ruleset part_laws = (within-Tup, within-Uni, within-Rec, read-Tup, read-Uni, read-Rec)
