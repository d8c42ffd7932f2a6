-- Types unify to a type.
use Rattle.std.proofs.Common.{◌≡◌, ◌≤◌, ◌||◌, ◌==◌, ◌∷◌, [], ℕ, ◌∙◌, Bool, List, ap, arith, false}
use Rattle.std.proofs.Common.{length, refl, subst, suc, sym, true, zero}
use Rattle.std.specs.Prelude.{if◌then◌else◌, None, Option, Some}
use Rattle.awk_unify.specs.Carry.{keep}
use Rattle.awk_unify.specs.FieldNames.{alike, field_type, picked, with_type}
use Rattle.awk_unify.specs.Join.{Unifying, join_by, leaf_join, leaf_type, list_join, rec_join}
use Rattle.awk_unify.specs.Join.{tup_join, unify_parts}
use Rattle.awk_unify.specs.Merge.{chosen, insert, start, further, insert_all, merged}
use Rattle.awk_unify.specs.Unification.{Placed, PlacedAll, Unification}
use Rattle.awk_unify.specs.Unify.{apart, bare, equal_or_unknown, in_unions, joined_or}
use Rattle.awk_unify.specs.Unify.{joins_or_unions, optional, options_or, unification}
use Rattle.awk_unify.specs.Unify.{unification_at}
use Rattle.awk_types.specs.Predicates.{is_unknown}
use Rattle.awk_types.proofs.TypeLaws.{alternatives_are_types, count-types_from, present_is_type}
use Rattle.awk_types.proofs.TypeLaws.{type_list_are_types}
use Rattle.awk_types.specs.DataType.{DataType, DataTypes, Name, depth, leaf, rec, reg, tup}
use Rattle.awk_types.specs.DataType.{type_list, types_from, unknown, var}
use Rattle.awk_types.specs.IsType.{AreTypes, IsType, count}
use Rattle.awk_types.specs.Names.{AreDistinct, same_name}
use Rattle.awk_types.specs.SameType.{same_type}
use Rattle.awk_types.specs.Simple.{alternatives, is_option, is_union, present}
use Rattle.awk_types.specs.declared.primitive.Primitive.{Primitive}

-- ---- unifying

abbrev IfType : Option Unification → Type 0
IfType None = Unit {0}
IfType (Some j) = IsType j.typ

abbrev pub Types : Unifying → Type 0
Types u = (a b : DataType) → IsType a → IsType b → IsType (u a b).typ

parts_types : (u : Unifying) → Types u → (firsts bs : List DataType) → AreTypes (types_from firsts)
    → AreTypes (types_from bs) → AreTypes (types_from (unify_parts u firsts bs).typs)
parts_types u g [] bs s t = tt
parts_types u g (a ∷ firsts) [] s t = tt
parts_types u g (a ∷ firsts) (b ∷ bs) s t = (g a b s.0 t.0, parts_types u g firsts bs s.1 t.1)

pub parts_length : (u : Unifying) (firsts bs : List DataType) → length firsts ≡ length bs
    → length (unify_parts u firsts bs).typs ≡ length firsts
parts_length u [] bs e = refl
parts_length u (a ∷ firsts) [] e = absurd (omega arith)
parts_length u (a ∷ firsts) (b ∷ bs) e = ap suc (parts_length u firsts bs (omega arith))

abbrev IfField : Option DataType → Type 0
IfField None = Unit {0}
IfField (Some t) = IsType t

abbrev pub IfFields : ℕ → Option (List DataType) → Type 0
IfFields n None = Unit {0}
IfFields n (Some ts) = (length ts ≡ n) × AreTypes (types_from ts)

if_field : (b : Bool) (t : DataType) (o : Option DataType) → IsType t → IfField o
    → IfField (if b then Some t else o)
if_field true t o h k = h
if_field false t o h k = k

field_ok : (n : Name) (ms : List Name) (us : List DataType) → AreTypes (types_from us)
    → IfField (field_type n ms us)
field_ok n [] us s = tt
field_ok n (m ∷ ms) [] s = tt
field_ok n (m ∷ ms) (u ∷ us) s =
    if_field (same_name n m) u (field_type n ms us) s.0 (field_ok n ms us s.1)

with_ok : (n : ℕ) (o : Option DataType) (os : Option (List DataType)) → IfField o → IfFields n os
    → IfFields (suc n) (with_type o os)
with_ok n (Some t) (Some ts) h k = (ap suc k.0, (h, k.1))
with_ok n (Some t) None h k = tt
with_ok n None os h k = tt

pub picked_ok : (ns ms : List Name) (us : List DataType) → AreTypes (types_from us)
    → IfFields (length ns) (picked ns ms us)
picked_ok [] ms us s = (refl, tt)
picked_ok (n ∷ ns) ms us s =
    with_ok (length ns) (field_type n ms us) (picked ns ms us) (field_ok n ms us s)
    (picked_ok ns ms us s)

if_type : (b : Bool) (o : Option Unification) → IfType o → IfType (if b then o else None)
if_type true o h = h
if_type false o h = tt

leaf_type_ok : (o : Option Primitive) → IfType (leaf_join o)
leaf_type_ok None = tt
leaf_type_ok (Some p) = tt

reg_type : (b : Bool) (n : ℕ) (r : Unification) → IsType r.typ
    → IfType (if b then list_join (reg n) r else list_join var r)
reg_type true n r h = h
reg_type false n r h = h

rec_type : (u : Unifying) → Types u
    → (ns ms : List Name) (ts : DataTypes) (o : Option (List DataType)) → AreDistinct ns
    → length ns ≡ count ts → AreTypes ts → IfFields (length ns) o
    → IfType (rec_join u ns ms (type_list ts) o)
rec_type u g ns ms ts None d c s h = tt
rec_type u g ns ms ts (Some us) d c s h = (
  d,
  c ∙ sym (count-types_from (unify_parts u (type_list ts) us).typs ∙ parts_length u
      (type_list ts) us (sym c ∙ sym h.0)),
  parts_types u g (type_list ts) us
      (type_list_are_types ts s) h.1,
)

pub join_type : (u : Unifying) → Types u → (a b : DataType) → IsType a → IsType b
    → IfType (join_by u a b)
join_type u g unknown unknown s t = tt
join_type u g (leaf p) (leaf q) s t = leaf_type_ok (leaf_type p q)
join_type u g (var a) (var b) s t = g a b s t
join_type u g (var a) (reg m b) s t = g a b s t
join_type u g (reg n a) (var b) s t = g a b s t
join_type u g (reg n a) (reg m b) s t = reg_type (n == m) n (u a b) (g a b s t)
join_type u g (tup ts) (tup us) s t =
    if_type (length (type_list ts) == length (type_list us))
    (tup_join (unify_parts u (type_list ts) (type_list us)))
    (parts_types u g (type_list ts) (type_list us) (type_list_are_types ts s)
    (type_list_are_types us t))
join_type u g (rec ns ts) (rec ms us) s t =
    if_type (alike ns ms) (rec_join u ns ms (type_list ts) (picked ns ms (type_list us)))
    (rec_type u g ns ms ts (picked ns ms (type_list us)) s.0 s.1 s.2
    (picked_ok ns ms (type_list us) (type_list_are_types us t.2)))
join_type u g a b s t = tt

-- alternatives: types, and at least one
abbrev pub SomeTypes : List DataType → Type 0
SomeTypes ts = AreTypes (types_from ts) × (1 ≤ length ts)

chosen_types : (a : DataType) (firsts : List DataType) (o : Option Unification) (rest : Placed)
    → IfType o → AreTypes (types_from (a ∷ firsts)) → AreTypes (types_from rest.typs)
    → SomeTypes (chosen a firsts o rest).typs
chosen_types a firsts (Some j) rest p h k = ((p, h.1), omega arith)
chosen_types a firsts None rest p h k = ((h.0, k), omega arith)

pub insert_types : (u : Unifying) → Types u → (firsts : List DataType) (b : DataType)
    → AreTypes (types_from firsts) → IsType b → SomeTypes (insert (join_by u) firsts b).typs
insert_types u g [] b s t = ((t, tt), omega arith)
insert_types u g (a ∷ firsts) b s t =
    chosen_types a firsts (join_by u a b) (insert (join_by u) firsts b) (join_type u g a b s.0 t) s
    (insert_types u g firsts b s.1 t).0

all_types : (u : Unifying) → Types u → (p : PlacedAll) (bs : List DataType) → SomeTypes p.typs
    → AreTypes (types_from bs) → SomeTypes (insert_all (join_by u) p bs).typs
all_types u g p [] s t = s
all_types u g p (b ∷ bs) s t =
    all_types u g (further p (insert (join_by u) p.typs b)) bs (insert_types u g p.typs b s.0 t.0)
    t.1

union_type : (x : Bool) (u : Unifying) → Types u → (a b : DataType) → IsType a → IsType b
    → IsType (if x then merged (insert_all (join_by u) (start (alternatives a)) (alternatives b))
    else apart a b).typ
union_type true u g a b s t =
    let r : SomeTypes (insert_all (join_by u) (start (alternatives a)) (alternatives b)).typs =
    all_types u g (start (alternatives a)) (alternatives b) (alternatives_are_types a s)
    (alternatives_are_types b t).0 in (
      subst (λ n. 1 ≤ n) (sym (count-types_from
          (insert_all (join_by u) (start (alternatives a)) (alternatives b)).typs)) r.1,
      r.0,
    )
union_type false u g a b s t = (omega arith, (s, (t, tt)))

joined_type : (o : Option Unification) (r : Unification) → IfType o → IsType r.typ
    → IsType (joined_or o r).typ
joined_type (Some j) r h k = h
joined_type None r h k = k

later_type : (u : Unifying) → Types u → (a b : DataType) → IsType a → IsType b
    → IsType (joins_or_unions u a b).typ
later_type u g a b s t =
    joined_type (join_by u a b) (in_unions u a b) (join_type u g a b s t)
    (union_type (is_union a || is_union b) u g a b s t)

equal_type : (a b : DataType) (r : Unification) → IsType a → IsType b → IsType r.typ
    → IsType (equal_or_unknown a b r).typ
equal_type a b r p q k = first (same_type a b) (is_unknown a) (is_unknown b)
  where
    first : (x y z : Bool) → IsType (if x then record { typ = a; left = keep; right = keep } else if
        y then record { typ = b; left = keep; right = keep } else if z then
        record { typ = a; left = keep; right = keep } else r).typ
    first true y z = p
    first false true z = q
    first false false true = p
    first false false false = k

options_type : (x : Bool) (u : Unifying) → Types u → (a b : DataType) → IsType a → IsType b
    → IsType (if x then optional (bare u (present a) (present b)) else joins_or_unions u a b).typ
options_type true u g a b s t =
    equal_type (present a) (present b) _ (present_is_type a s) (present_is_type b t)
    (later_type u g (present a) (present b) (present_is_type a s) (present_is_type b t))
options_type false u g a b s t = later_type u g a b s t

pub steps_type : (n : ℕ) → Types (unification_at n)
steps_type zero a b s t = (omega arith, (s, (t, tt)))
steps_type (suc n) a b s t =
    equal_type a b (options_or (unification_at n) a b) s t
    (options_type (is_option a || is_option b) (unification_at n) (steps_type n) a b s t)

pub unify_type : (a b : DataType) → IsType a → IsType b → IsType (unification a b).typ
unify_type a b s t = steps_type (depth b) a b s t
