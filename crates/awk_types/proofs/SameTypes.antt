-- Two types are equal exactly where their parts are.
use Rattle.std.proofs.Common.{◌≡◌, ◌↔◌, List, [], ◌∷◌, refl, sym, ap, ◌∙◌}
use Rattle.awk_base.proofs.Truths.{same_as}
use Rattle.awk_types.specs.DataType.{Name, DataType, rec, tup, uni, DataTypes, no_types, type}
use Rattle.awk_types.specs.DataType.{types_from, type_list}
use Rattle.awk_types.specs.View.{NamedType, names_of, types_of, typ_of, fields_of, typs_of}
use Rattle.awk_types.specs.declared.typ.Typ.{Typ, Tup, Uni, Rec}
use Rattle.awk_types.specs.declared.typ.Typs.{Typs}
use Rattle.awk_types.specs.declared.typ.Fields.{Fields}
use Rattle.awk_types.proofs.Trees.{type_list-from}
use Rattle.awk_types.proofs.Views.{typ_of-Tup, typ_of-Uni, typ_of-Rec}

pub tup-inj : (ts us : List DataType) → tup (types_from ts) ≡ tup (types_from us) → ts ≡ us
tup-inj ts us e = sym (type_list-from ts) ∙ ap parts e ∙ type_list-from us
  where
    parts : DataType → List DataType
    parts (tup ts) = type_list ts
    parts t = []

pub uni-inj : (ts us : List DataType) → uni (types_from ts) ≡ uni (types_from us) → ts ≡ us
uni-inj ts us e = sym (type_list-from ts) ∙ ap parts e ∙ type_list-from us
  where
    parts : DataType → List DataType
    parts (uni ts) = type_list ts
    parts t = []

-- the fields of a record
fields_in : List Name → DataTypes → List NamedType
fields_in [] ts = []
fields_in (n ∷ ns) no_types = []
fields_in (n ∷ ns) (type t ts) = record { name = n; typ = t } ∷ fields_in ns ts

fields_in-of : (fs : List NamedType) → fields_in (names_of fs) (types_of fs) ≡ fs
unfolding fields_in
fields_in-of [] = refl
fields_in-of (f ∷ fs) = ap (λ gs. f ∷ gs) (fields_in-of fs)

pub rec-inj : (fs gs : List NamedType)
    → rec (names_of fs) (types_of fs) ≡ rec (names_of gs) (types_of gs) → fs ≡ gs
rec-inj fs gs e = sym (fields_in-of fs) ∙ ap fields e ∙ fields_in-of gs
  where
    fields : DataType → List NamedType
    fields (rec ns ts) = fields_in ns ts
    fields t = []

pub tup_same : (a b : Typ) (ts us : Typs) {P : Type 0} → a ≡ Tup ts → b ≡ Tup us
    → (P ↔ (typs_of ts ≡ typs_of us)) → P ↔ (typ_of a ≡ typ_of b)
tup_same a b ts us ea eb h =
    same_as (ap typ_of ea ∙ typ_of-Tup ts) (ap typ_of eb ∙ typ_of-Tup us)
    (λ p. ap (λ x. tup (types_from x)) (h.0 p), λ e. h.1 (tup-inj _ _ e))

pub uni_same : (a b : Typ) (ts us : Typs) {P : Type 0} → a ≡ Uni ts → b ≡ Uni us
    → (P ↔ (typs_of ts ≡ typs_of us)) → P ↔ (typ_of a ≡ typ_of b)
uni_same a b ts us ea eb h =
    same_as (ap typ_of ea ∙ typ_of-Uni ts) (ap typ_of eb ∙ typ_of-Uni us)
    (λ p. ap (λ x. uni (types_from x)) (h.0 p), λ e. h.1 (uni-inj _ _ e))

pub rec_same : (a b : Typ) (fs gs : Fields) {P : Type 0} → a ≡ Rec fs → b ≡ Rec gs
    → (P ↔ (fields_of fs ≡ fields_of gs)) → P ↔ (typ_of a ≡ typ_of b)
rec_same a b fs gs ea eb h =
    same_as (ap typ_of ea ∙ typ_of-Rec fs) (ap typ_of eb ∙ typ_of-Rec gs)
    (λ p. ap (λ x. rec (names_of x) (types_of x)) (h.0 p), λ e. h.1 (rec-inj _ _ e))
