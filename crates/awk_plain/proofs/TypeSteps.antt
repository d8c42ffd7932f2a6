-- One step of the types of plain values: what is told of a list, of an object, and so far.
use Rattle.std.proofs.Common.{◌≡◌, List, [], ◌∷◌, ◌++◌, Option, None, Result, Ok, true}
use Rattle.std.proofs.Common.{ℕ, ap, ap₂, sym, subst, ◌∙◌, append_assoc}
use Rattle.std.proofs.Common.{Box, Global, drop, get_or, length, ◌<◌, ◌+◌}
use Rattle.std.proofs.lemmas.List.{drop_more}
use Rattle.serde_json.specs.View.{items_view, view}
use Rattle.serde_json.specs.declared.value.Value as json
use Rattle.awk_unify.specs.Unification.{Unification}
use Rattle.serde_json.specs.Data.{Data, array, object, Items, item, Members, member}
use Rattle.awk_types.specs.DataType.{DataType, unknown, var, rec}
use Rattle.awk_types.specs.Gives.{Told, Gives, refused_or, ◌or◌}
use Rattle.awk_types.specs.Limit.{Limit, limit, limit_told, within}
use Rattle.awk_types.specs.Simple.{IsSimple}
use Rattle.awk_types.specs.View.{NamedType, names_of, types_of, typ_of}
use Rattle.awk_types.specs.View.{typ_step, field_step, fields_step, typs_step}
use Rattle.awk_types.specs.declared.limit.TypeFault.{TypeFault}
use Rattle.awk_types.specs.declared.typ.Typ.{Typ, Unknown, Var}
use Rattle.awk_types.specs.declared.typ.Typ.TheFolds.{fold-roll-Typ}
use Rattle.awk_types.specs.declared.typ.Typ.TheOpen.{Typ-F}
use Rattle.awk_types.specs.declared.typ.Typ.TheVariants.{rolls-Unknown, rolls-Var}
use Rattle.awk_types.proofs.RefusalLaws.{Told-first, Told-later, Told-same, refused_or-Ok, or-None}
use Rattle.awk_unify.proofs.SimpleLaws.{unify_simple}
use Rattle.awk_unify.specs.Unify.{unification}
use Rattle.awk_plain.specs.Plain.{plain_type, items_type, one_more}
use Rattle.awk_plain.specs.Plain.{types_made, items_made, members_made, first_limit}
use Rattle.awk_plain.specs.Types.{fields_in}
use Rattle.awk_plain.specs.IsPlain.{IsPlain}
use Rattle.awk_plain.specs.Suits.{suits}
use Rattle.awk_plain.proofs.SuitLaws.{suits_adds, suits_within}
use Rattle.awk_plain.proofs.TypeLaws.{limit_last, limit_item, limit_member, names-fields}
use Rattle.awk_plain.proofs.TypeLaws.{types-fields, plain_simple, items_simple}

-- ---- lists

pub array_told : (o : Option Limit) (ds : Items)
    → Told o (refused_or (first_limit (items_made unknown ds)) (items_type unknown ds))
    → Told o (refused_or (first_limit (types_made (array ds))) (plain_type (array ds)))
array_told o ds h =
    let first = first_limit (items_made unknown ds) in
    let t = items_type unknown ds in
    Told-same o (first_limit (types_made (array ds))) (first or limit (var t)) (var t) (var t)
    (limit_last (items_made unknown ds) (var t)) (Told-first o first (limit (var t)) t (var t) h)

pub array_given : (ds : Items) (t : DataType) (r : Result Typ TypeFault)
    → refused_or (first_limit (items_made unknown ds)) (items_type unknown ds) ≡ Ok t
    → Gives typ_of limit_told r (within (var t))
    → Gives typ_of limit_told r
    (refused_or (first_limit (types_made (array ds))) (plain_type (array ds)))
array_given ds t r e h =
    let is = refused_or-Ok (first_limit (items_made unknown ds)) (items_type unknown ds) t e in
    let told : first_limit (types_made (array ds)) ≡ limit (var t) =
    limit_last (items_made unknown ds) (var (items_type unknown ds))
    ∙ or-None (first_limit (items_made unknown ds)) (limit (var (items_type unknown ds))) is.0
    ∙ ap (λ u. limit (var u)) is.1 in
    subst (Gives typ_of limit_told r) (sym (ap₂ refused_or told (ap var is.1))) h

pub array_simple : (ds : Items) (t : DataType)
    → refused_or (first_limit (items_made unknown ds)) (items_type unknown ds) ≡ Ok t → IsSimple t
array_simple ds t e =
    let is = refused_or-Ok (first_limit (items_made unknown ds)) (items_type unknown ds) t e in
    subst IsSimple is.1 (items_simple unknown ds tt)

-- ---- objects

abbrev row_of : List NamedType → DataType
row_of fs = rec (names_of fs) (types_of fs)

row_type-is : (ms : Members) → plain_type (object ms) ≡ row_of (fields_in ms)
row_type-is ms = ap₂ rec (sym (names-fields ms)) (sym (types-fields ms))

pub object_told : (o : Option Limit) (ms : Members)
    → Told o (refused_or (first_limit (members_made ms)) (fields_in ms))
    → Told o (refused_or (first_limit (types_made (object ms))) (plain_type (object ms)))
object_told o ms h =
    let first = first_limit (members_made ms) in
    let t = plain_type (object ms) in
    Told-same o (first_limit (types_made (object ms))) (first or limit t) t t
    (limit_last (members_made ms) t) (Told-first o first (limit t) (fields_in ms) t h)

pub object_given : (ms : Members) (fs : List NamedType) (r : Result Typ TypeFault)
    → refused_or (first_limit (members_made ms)) (fields_in ms) ≡ Ok fs
    → Gives typ_of limit_told r (within (rec (names_of fs) (types_of fs)))
    → Gives typ_of limit_told r
    (refused_or (first_limit (types_made (object ms))) (plain_type (object ms)))
object_given ms fs r e h =
    let is = refused_or-Ok (first_limit (members_made ms)) (fields_in ms) fs e in
    let typ : plain_type (object ms) ≡ rec (names_of fs) (types_of fs) =
    row_type-is ms ∙ ap (λ gs. rec (names_of gs) (types_of gs)) is.1 in
    let told : first_limit (types_made (object ms)) ≡ limit (rec (names_of fs) (types_of fs)) =
    limit_last (members_made ms) (plain_type (object ms))
    ∙ or-None (first_limit (members_made ms)) (limit (plain_type (object ms))) is.0
    ∙ ap limit typ in
    subst (Gives typ_of limit_told r) (sym (ap₂ refused_or told typ)) h

pub object_simple : (ms : Members) (fs : List NamedType)
    → refused_or (first_limit (members_made ms)) (fields_in ms) ≡ Ok fs
    → IsSimple (rec (names_of fs) (types_of fs))
object_simple ms fs e =
    let is = refused_or-Ok (first_limit (members_made ms)) (fields_in ms) fs e in
    subst IsSimple (row_type-is ms ∙ ap (λ gs. rec (names_of gs) (types_of gs)) is.1)
    (plain_simple (object ms))

pub typ_of-Var : (t : Box Typ Global) → typ_of (Var t) ≡ var (typ_of t.value)
typ_of-Var t = ap typ_of (sym (rolls-Var t))
    ∙ fold-roll-Typ DataType NamedType (List NamedType) (List DataType) typ_step field_step
    fields_step typs_step (Typ-F.Var t)

pub typ_of-Unknown : typ_of Unknown ≡ unknown
typ_of-Unknown =
    ap typ_of (sym rolls-Unknown)
    ∙ fold-roll-Typ DataType NamedType (List NamedType) (List DataType) typ_step field_step
    fields_step typs_step Typ-F.Unknown

-- ---- items so far

-- the first of the items that are left
pub item_next : (vs : List json.Value) (i : ℕ) (v : json.Value) → i < length vs
    → v ≡ get_or vs i v → items_view (drop i vs) ≡ item (view v) (items_view (drop (i + 1) vs))
item_next vs i v h e =
    ap items_view (drop_more vs i v h ∙ ap (λ w. w ∷ drop (i + 1) vs) (sym e))

pub unified_type : (a : Option Limit) (r s : Unification) → refused_or a r ≡ Ok s → s.typ ≡ r.typ
unified_type a r s e = sym (ap (λ u. u.typ) (refused_or-Ok a r s e).1)

-- the type so far and the items that are left tell all
pub record AreLeft (ds : Items) (t : DataType) (left : Items) : Type 0 where
  pub typ : items_type unknown ds ≡ items_type t left
  pub limits : first_limit (items_made unknown ds) ≡ first_limit (items_made t left)
  pub simple : IsSimple t
  pub within : limit t ≡ None

-- the next item has a type within the limits
pub one_simple : (d : Data) (b : DataType)
    → refused_or (first_limit (types_made d)) (plain_type d) ≡ Ok b → IsSimple b
one_simple d b e =
    subst IsSimple (refused_or-Ok (first_limit (types_made d)) (plain_type d) b e).1
    (plain_simple d)

pub item_told : (o : Option Limit) (ds : Items) (t : DataType) (d : Data) (left : Items)
    → AreLeft ds t (item d left)
    → Told o (refused_or (first_limit (types_made d)) (plain_type d))
    → Told o (refused_or (first_limit (items_made unknown ds)) (items_type unknown ds))
item_told o ds t d left s h =
    let later = limit (one_more t (plain_type d))
    or first_limit (items_made (one_more t (plain_type d)) left) in
    Told-same o (first_limit (items_made unknown ds)) (first_limit (types_made d) or later)
    (items_type unknown ds) (items_type unknown ds) (s.limits ∙ limit_item t d left)
    (Told-first o (first_limit (types_made d)) later (plain_type d) (items_type unknown ds) h)

pub unified_told : (o : Option Limit) (ds : Items) (t : DataType) (d : Data) (left : Items)
    (b : DataType) → AreLeft ds t (item d left)
    → refused_or (first_limit (types_made d)) (plain_type d) ≡ Ok b
    → Told o (refused_or (limit (one_more t b)) (unification t b))
    → Told o (refused_or (first_limit (items_made unknown ds)) (items_type unknown ds))
unified_told o ds t d left b s e h =
    let is = refused_or-Ok (first_limit (types_made d)) (plain_type d) b e in
    let rest = first_limit (items_made (one_more t (plain_type d)) left) in
    let here : Told o (refused_or (limit (one_more t (plain_type d))) (unification t b)) =
    subst (λ u. Told o (refused_or (limit (one_more t u)) (unification t b))) (sym is.1) h in
    Told-same o (first_limit (items_made unknown ds))
    (first_limit (types_made d) or (limit (one_more t (plain_type d)) or rest))
    (items_type unknown ds) (items_type unknown ds) (s.limits ∙ limit_item t d left)
    (Told-later o (first_limit (types_made d)) (limit (one_more t (plain_type d)) or rest)
    (items_type unknown ds) (items_type unknown ds) is.0
    (Told-first o (limit (one_more t (plain_type d))) rest (unification t b)
    (items_type unknown ds) here))

pub item_left : (ds : Items) (t : DataType) (d : Data) (left : Items) (b u : DataType)
    → AreLeft ds t (item d left) → refused_or (first_limit (types_made d)) (plain_type d) ≡ Ok b
    → limit u ≡ None → u ≡ one_more t b → AreLeft ds u left
item_left ds t d left b u s e few same =
    let is = refused_or-Ok (first_limit (types_made d)) (plain_type d) b e in
    let next : one_more t (plain_type d) ≡ u = ap (one_more t) is.1 ∙ sym same in
    let fits : limit (one_more t (plain_type d)) ≡ None = ap limit next ∙ few in
    record {
      typ = s.typ ∙ ap (λ v. items_type v left) next;
      limits =
          s.limits ∙ limit_item t d left
          ∙ or-None (first_limit (types_made d)) _ is.0
          ∙ or-None (limit (one_more t (plain_type d))) _ fits
          ∙ ap (λ v. first_limit (items_made v left)) next;
      simple = subst IsSimple next (unify_simple t (plain_type d) s.simple (plain_simple d));
      within = few;
    }

-- an item that is of the type so far as it stands
pub suit_left : (ds : Items) (t : DataType) (d : Data) (left : Items) → AreLeft ds t (item d left)
    → IsPlain d → suits t d ≡ true → AreLeft ds t left
suit_left ds t d left s p e =
    let same : one_more t (plain_type d) ≡ t = suits_adds t d s.simple p e in
    record {
      typ = s.typ ∙ ap (λ v. items_type v left) same;
      limits =
          s.limits ∙ limit_item t d left
          ∙ or-None (first_limit (types_made d)) _ (suits_within t d s.simple s.within p e)
          ∙ or-None (limit (one_more t (plain_type d))) _ (ap limit same ∙ s.within)
          ∙ ap (λ v. first_limit (items_made v left)) same;
      simple = s.simple;
      within = s.within;
    }

-- ---- members so far

pub record AreFields (ms : Members) (fs : List NamedType) (left : Members) : Type 0 where
  pub fields : fields_in ms ≡ fs ++ fields_in left
  pub limits : first_limit (members_made ms) ≡ first_limit (members_made left)

pub member_told : (o : Option Limit) (ms : Members) (fs : List NamedType) (key : List ℕ) (d : Data)
    (left : Members) → AreFields ms fs (member key d left)
    → Told o (refused_or (first_limit (types_made d)) (plain_type d))
    → Told o (refused_or (first_limit (members_made ms)) (fields_in ms))
member_told o ms fs key d left s h =
    let later = first_limit (members_made left) in
    Told-same o (first_limit (members_made ms)) (first_limit (types_made d) or later)
    (fields_in ms) (fields_in ms) (s.limits ∙ limit_member key d left)
    (Told-first o (first_limit (types_made d)) later (plain_type d) (fields_in ms) h)

pub member_left : (ms : Members) (fs gs : List NamedType) (key : List ℕ) (d : Data)
    (left : Members) (b : DataType) → AreFields ms fs (member key d left)
    → refused_or (first_limit (types_made d)) (plain_type d) ≡ Ok b
    → gs ≡ fs ++ record { name = key; typ = b } ∷ [] → AreFields ms gs left
member_left ms fs gs key d left b s e put =
    let is = refused_or-Ok (first_limit (types_made d)) (plain_type d) b e in
    record {
      fields =
          s.fields
          ∙ ap (λ u. fs ++ record { name = key; typ = u } ∷ fields_in left) is.1
          ∙ sym (ap (λ hs. hs ++ fields_in left) put
          ∙ append_assoc fs (record { name = key; typ = b } ∷ []) (fields_in left));
      limits = s.limits ∙ limit_member key d left ∙ or-None (first_limit (types_made d)) _ is.0;
    }
