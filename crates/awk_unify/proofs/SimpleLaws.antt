-- Simple types unify to a simple type.
use Rattle.std.proofs.Common.{◌≡◌, ◌≤◌, ◌||◌, ◌==◌, ◌∷◌, [], ℕ, Bool, List, arith, false, length}
use Rattle.std.proofs.Common.{refl, subst, suc, sym, true, zero}
use Rattle.std.specs.Prelude.{if◌then◌else◌, None, Option, Some}
use Rattle.awk_unify.proofs.DepthLaws.{Deepest, deepest_list}
use Rattle.awk_unify.specs.Carry.{keep}
use Rattle.awk_unify.specs.FieldNames.{alike, field_type, picked, with_type}
use Rattle.awk_unify.specs.Join.{Unifying, join_by, leaf_join, leaf_type, list_join, rec_join}
use Rattle.awk_unify.specs.Join.{tup_join, unify_parts}
use Rattle.awk_unify.specs.Merge.{chosen, insert, start, further, insert_all, merged}
use Rattle.awk_unify.specs.Unification.{Placed, PlacedAll, Unification}
use Rattle.awk_unify.specs.Unify.{apart, bare, equal_or_unknown, in_unions, joined_or}
use Rattle.awk_unify.specs.Unify.{joins_or_unions, optional, options_or, unification}
use Rattle.awk_unify.specs.Unify.{unification_at}
use Rattle.awk_types.specs.Predicates.{is_unknown}
use Rattle.awk_types.proofs.SimpleLaws.{alternatives_plain, present_no_option, present_simple}
use Rattle.awk_types.proofs.Trees.{types_from-list}
use Rattle.awk_types.specs.DataType.{DataType, DataTypes, Name, depth, leaf, opt, rec, reg, tup}
use Rattle.awk_types.specs.DataType.{type_list, types_from, uni, unknown, var}
use Rattle.awk_types.specs.Names.{same_name}
use Rattle.awk_types.specs.SameType.{same_type}
use Rattle.awk_types.specs.Simple.{ArePlain, AreSimple, IsSimple, alternatives, is_option, is_union}
use Rattle.awk_types.specs.Simple.{present}
use Rattle.awk_types.specs.declared.primitive.Primitive.{Primitive}
use Rattle.awk_types.proofs.TypeShapes.{some_depth}

-- the type of a list column is that of its items
abbrev IfIs : (DataType → Type 0) → Option Unification → Type 0
IfIs P None = Unit {0}
IfIs P (Some j) = P j.typ

abbrev pub IsPlain : DataType → Type 0
IsPlain t = (is_option t ≡ false) × (is_union t ≡ false)

-- what joins gives neither option nor union

leaf_plain : (o : Option Primitive) → IfIs IsPlain (leaf_join o)
leaf_plain None = tt
leaf_plain (Some p) = (refl, refl)

if_plain : (b : Bool) (o : Option Unification) → IfIs IsPlain o
    → IfIs IsPlain (if b then o else None)
if_plain true o h = h
if_plain false o h = tt

rec_plain : (u : Unifying) (ns ms : List Name) (ts : List DataType) (o : Option (List DataType))
    → IfIs IsPlain (rec_join u ns ms ts o)
rec_plain u ns ms ts None = tt
rec_plain u ns ms ts (Some us) = (refl, refl)

reg_plain : (b : Bool) (n : ℕ) (r : Unification)
    → IfIs IsPlain (if b then list_join (reg n) r else list_join var r)
reg_plain true n r = (refl, refl)
reg_plain false n r = (refl, refl)

pub join_plain : (u : Unifying) (a b : DataType) → IfIs IsPlain (join_by u a b)
join_plain u unknown unknown = (refl, refl)
join_plain u (leaf p) (leaf q) = leaf_plain (leaf_type p q)
join_plain u (var a) (var b) = (refl, refl)
join_plain u (var a) (reg m b) = (refl, refl)
join_plain u (reg n a) (var b) = (refl, refl)
join_plain u (reg n a) (reg m b) = reg_plain (n == m) n (u a b)
join_plain u (tup ts) (tup us) =
    if_plain (length (type_list ts) == length (type_list us))
    (tup_join (unify_parts u (type_list ts) (type_list us))) (refl, refl)
join_plain u (rec ns ts) (rec ms us) =
    if_plain (alike ns ms) (rec_join u ns ms (type_list ts) (picked ns ms (type_list us)))
    (rec_plain u ns ms (type_list ts) (picked ns ms (type_list us)))
join_plain u a b = tt

-- and simple parts

abbrev pub Simply : ℕ → Unifying → Type 0
Simply n u = (a b : DataType) → depth b ≤ n → IsSimple a → IsSimple b → IsSimple (u a b).typ

parts_simple : (n : ℕ) (u : Unifying) → Simply n u → (firsts bs : List DataType) → Deepest bs ≤ n
    → AreSimple (types_from firsts) → AreSimple (types_from bs)
    → AreSimple (types_from (unify_parts u firsts bs).typs)
parts_simple n u g [] bs h s t = tt
parts_simple n u g (a ∷ firsts) [] h s t = tt
parts_simple n u g (a ∷ firsts) (b ∷ bs) h s t =
    (g a b (omega arith) s.0 t.0, parts_simple n u g firsts bs (omega arith) s.1 t.1)

abbrev pub IfFine : ℕ → Option DataType → Type 0
IfFine n None = Unit {0}
IfFine n (Some t) = (depth t ≤ n) × IsSimple t

abbrev pub IfAllFine : ℕ → Option (List DataType) → Type 0
IfAllFine n None = Unit {0}
IfAllFine n (Some ts) = (Deepest ts ≤ n) × AreSimple (types_from ts)

if_fine : (b : Bool) (n : ℕ) (t : DataType) (o : Option DataType) → depth t ≤ n → IsSimple t
    → IfFine n o → IfFine n (if b then Some t else o)
if_fine true n t o h s k = (h, s)
if_fine false n t o h s k = k

field_fine : (m : ℕ) (n : Name) (ms : List Name) (us : List DataType) → Deepest us ≤ m
    → AreSimple (types_from us) → IfFine m (field_type n ms us)
field_fine m n [] us h s = tt
field_fine m n (k ∷ ms) [] h s = tt
field_fine m n (k ∷ ms) (u ∷ us) h s =
    if_fine (same_name n k) m u (field_type n ms us) (omega arith) s.0
    (field_fine m n ms us (omega arith) s.1)

with_fine : (m : ℕ) (o : Option DataType) (os : Option (List DataType)) → IfFine m o
    → IfAllFine m os → IfAllFine m (with_type o os)
with_fine m (Some t) (Some ts) h k = (omega (arith, h.0, k.0), (h.1, k.1))
with_fine m (Some t) None h k = tt
with_fine m None os h k = tt

pub picked_fine : (m : ℕ) (ns ms : List Name) (us : List DataType) → Deepest us ≤ m
    → AreSimple (types_from us) → IfAllFine m (picked ns ms us)
picked_fine m [] ms us h s = (omega arith, tt)
picked_fine m (n ∷ ns) ms us h s =
    with_fine m (field_type n ms us) (picked ns ms us) (field_fine m n ms us h s)
    (picked_fine m ns ms us h s)

pub type_list_are_simple : (ts : DataTypes) → AreSimple ts → AreSimple (types_from (type_list ts))
type_list_are_simple ts s = subst AreSimple (sym (types_from-list ts)) s

if_simple : (b : Bool) (o : Option Unification) → IfIs IsSimple o
    → IfIs IsSimple (if b then o else None)
if_simple true o h = h
if_simple false o h = tt

leaf_simple : (o : Option Primitive) → IfIs IsSimple (leaf_join o)
leaf_simple None = tt
leaf_simple (Some p) = tt

reg_simple : (b : Bool) (n : ℕ) (r : Unification) → IsSimple r.typ
    → IfIs IsSimple (if b then list_join (reg n) r else list_join var r)
reg_simple true n r h = h
reg_simple false n r h = h

rec_simple : (n : ℕ) (u : Unifying) → Simply n u
    → (ns ms : List Name) (ts : List DataType) (o : Option (List DataType))
    → AreSimple (types_from ts) → IfAllFine n o → IfIs IsSimple (rec_join u ns ms ts o)
rec_simple n u g ns ms ts None s h = tt
rec_simple n u g ns ms ts (Some us) s h = parts_simple n u g ts us h.0 s h.1

pub join_simple : (n : ℕ) (u : Unifying) → Simply n u → (a b : DataType) → depth b ≤ suc n
    → IsSimple a → IsSimple b → IfIs IsSimple (join_by u a b)
join_simple n u g unknown unknown h s t = tt
join_simple n u g (leaf p) (leaf q) h s t = leaf_simple (leaf_type p q)
join_simple n u g (var a) (var b) h s t = g a b (omega arith) s t
join_simple n u g (var a) (reg m b) h s t = g a b (omega arith) s t
join_simple n u g (reg k a) (var b) h s t = g a b (omega arith) s t
join_simple n u g (reg k a) (reg m b) h s t =
    reg_simple (k == m) k (u a b) (g a b (omega arith) s t)
join_simple n u g (tup ts) (tup us) h s t =
    if_simple (length (type_list ts) == length (type_list us))
    (tup_join (unify_parts u (type_list ts) (type_list us)))
    (parts_simple n u g (type_list ts) (type_list us) (omega (arith, deepest_list us))
    (type_list_are_simple ts s) (type_list_are_simple us t))
join_simple n u g (rec ns ts) (rec ms us) h s t =
    if_simple (alike ns ms) (rec_join u ns ms (type_list ts) (picked ns ms (type_list us)))
    (rec_simple n u g ns ms (type_list ts) (picked ns ms (type_list us)) (type_list_are_simple ts s)
    (picked_fine n ns ms (type_list us) (omega (arith, deepest_list us))
    (type_list_are_simple us t)))
join_simple n u g a b h s t = tt

-- ---- alternatives

chosen_plain : (a : DataType) (firsts : List DataType) (o : Option Unification) (rest : Placed)
    → IfIs IsPlain o → IfIs IsSimple o → ArePlain (types_from (a ∷ firsts))
    → ArePlain (types_from rest.typs) → ArePlain (types_from (chosen a firsts o rest).typs)
chosen_plain a firsts (Some j) rest p s h k = (p.0, p.1, s, h.3)
chosen_plain a firsts None rest p s h k = (h.0, h.1, h.2, k)

pub insert_plain : (n : ℕ) (u : Unifying) → Simply n u → (firsts : List DataType) (b : DataType)
    → depth b ≤ suc n → ArePlain (types_from firsts) → IsPlain b → IsSimple b
    → ArePlain (types_from (insert (join_by u) firsts b).typs)
insert_plain n u g [] b h s p t = (p.0, p.1, t, tt)
insert_plain n u g (a ∷ firsts) b h s p t =
    chosen_plain a firsts (join_by u a b) (insert (join_by u) firsts b) (join_plain u a b)
    (join_simple n u g a b h s.2 t) s (insert_plain n u g firsts b h s.3 p t)

pub all_plain : (n : ℕ) (u : Unifying) → Simply n u → (p : PlacedAll) (bs : List DataType)
    → Deepest bs ≤ suc n → ArePlain (types_from p.typs) → ArePlain (types_from bs)
    → ArePlain (types_from (insert_all (join_by u) p bs).typs)
all_plain n u g p [] h s t = s
all_plain n u g p (b ∷ bs) h s t =
    all_plain n u g (further p (insert (join_by u) p.typs b)) bs (omega arith)
    (insert_plain n u g p.typs b (omega arith) s (t.0, t.1) t.2) t.3

-- ---- the rules

pub not_uni : (a : DataType) (b : DataType) → (is_union a || is_union b) ≡ false
    → (is_union a ≡ false) × (is_union b ≡ false)
not_uni (uni ts) b e = cc
not_uni a b e = (refl, e)

pub deepest_alternatives : (b : DataType) → Deepest (alternatives b) ≤ depth b
deepest_alternatives (uni us) = omega (arith, deepest_list us)
deepest_alternatives b = omega arith

pub union_simple : (x : Bool) (n : ℕ) (u : Unifying) → Simply n u → (a b : DataType)
    → (is_union a || is_union b) ≡ x → depth b ≤ suc n → IsSimple a → IsSimple b
    → is_option a ≡ false → is_option b ≡ false →
    IsSimple (if x then merged (insert_all (join_by u) (start (alternatives a)) (alternatives b))
    else apart a b).typ
union_simple true n u g a b e h s t p q =
    all_plain n u g (start (alternatives a)) (alternatives b)
    (omega (arith, deepest_alternatives b)) (alternatives_plain a s p) (alternatives_plain b t q)
union_simple false n u g a b e h s t p q = (p, (not_uni a b e).0, s, (q, (not_uni a b e).1, t, tt))

joined_simple : (o : Option Unification) (r : Unification) → IfIs IsSimple o → IsSimple r.typ
    → IsSimple (joined_or o r).typ
joined_simple (Some j) r h k = h
joined_simple None r h k = k

pub later_simple : (n : ℕ) (u : Unifying) → Simply n u → (a b : DataType) → depth b ≤ suc n
    → IsSimple a → IsSimple b → is_option a ≡ false → is_option b ≡ false
    → IsSimple (joins_or_unions u a b).typ
later_simple n u g a b h s t p q =
    joined_simple (join_by u a b) (in_unions u a b) (join_simple n u g a b h s t)
    (union_simple (is_union a || is_union b) n u g a b refl h s t p q)

union_not_opt : (x : Bool) (a b : DataType) (p : PlacedAll)
    → is_option (if x then merged p else apart a b).typ ≡ false
union_not_opt true a b p = refl
union_not_opt false a b p = refl

joined_not_opt : (o : Option Unification) (r : Unification) → IfIs IsPlain o
    → is_option r.typ ≡ false → is_option (joined_or o r).typ ≡ false
joined_not_opt (Some j) r h k = h.0
joined_not_opt None r h k = k

later_not_opt : (u : Unifying) (a b : DataType) → is_option (joins_or_unions u a b).typ ≡ false
later_not_opt u a b =
    joined_not_opt (join_by u a b) (in_unions u a b) (join_plain u a b)
    (union_not_opt (is_union a || is_union b) a b
    (insert_all (join_by u) (start (alternatives a)) (alternatives b)))

-- what holds of both types and of the rest
pub equal_is : (P : DataType → Type 0) (a b : DataType) (r : Unification) → P a → P b → P r.typ
    → P (equal_or_unknown a b r).typ
equal_is P a b r p q k = first (same_type a b) (is_unknown a) (is_unknown b)
  where
    first : (x y z : Bool) → P (if x then record { typ = a; left = keep; right = keep } else if y
        then record { typ = b; left = keep; right = keep } else if z then
        record { typ = a; left = keep; right = keep } else r).typ
    first true y z = p
    first false true z = q
    first false false true = p
    first false false false = k

pub not_opts : (a b : DataType) → (is_option a || is_option b) ≡ false
    → (is_option a ≡ false) × (is_option b ≡ false)
not_opts (opt t) b e = cc
not_opts a b e = (refl, e)

pub present_shallow : (b : DataType) → depth (present b) ≤ depth b
present_shallow (opt b) = omega arith
present_shallow b = omega arith

options_simple : (x : Bool) (n : ℕ) (u : Unifying) → Simply n u → (a b : DataType)
    → (is_option a || is_option b) ≡ x → depth b ≤ suc n → IsSimple a → IsSimple b →
    IsSimple (if x then optional (bare u (present a) (present b)) else joins_or_unions u a b).typ
options_simple true n u g a b e h s t = (
  equal_is (λ t. is_option t ≡ false) (present a) (present b) _ (present_no_option a s)
      (present_no_option b t) (later_not_opt u (present a) (present b)),
  equal_is IsSimple (present a) (present b) _ (present_simple a s) (present_simple b t)
      (later_simple n u g (present a) (present b) (omega (arith, present_shallow b))
      (present_simple a s) (present_simple b t) (present_no_option a s) (present_no_option b t)),
)
options_simple false n u g a b e h s t =
    later_simple n u g a b h s t (not_opts a b e).0 (not_opts a b e).1

pub steps_simple : (n : ℕ) → Simply n (unification_at n)
steps_simple zero a b h s t = absurd (omega (arith, some_depth b))
steps_simple (suc n) a b h s t =
    equal_is IsSimple a b (options_or (unification_at n) a b) s t
    (options_simple (is_option a || is_option b) n (unification_at n) (steps_simple n) a b refl h s
    t)

pub unify_simple : (a b : DataType) → IsSimple a → IsSimple b → IsSimple (unification a b).typ
unify_simple a b s t = steps_simple (depth b) a b (omega arith) s t
