-- As many steps as the second type is deep are enough.
use Rattle.std.proofs.Common.{◌≡◌, ◌-◌, ◌≤◌, ◌==◌, ◌∷◌, [], ℕ, ◌∙◌, Bool, List, ap, arith, false}
use Rattle.std.proofs.Common.{length, max, min, refl, suc, true, zero}
use Rattle.std.specs.Prelude.{if◌then◌else◌, None, Option, Some}
use Rattle.awk_unify.specs.FieldNames.{alike, field_type, picked, with_type}
use Rattle.awk_unify.specs.Join.{Unifying, join_by, list_join, rec_join, tup_join, unify_parts}
use Rattle.awk_unify.specs.Merge.{chosen, insert, start, further, insert_all}
use Rattle.awk_unify.specs.Unification.{PlacedAll}
use Rattle.awk_unify.specs.Unify.{joins_or_unions, rules, unification, unification_at}
use Rattle.awk_types.specs.DataType.{DataType, DataTypes, Name, depth, depths, greatest, leaf}
use Rattle.awk_types.specs.DataType.{no_types, opt, rec, reg, tup, type, type_list, types_from, uni}
use Rattle.awk_types.specs.DataType.{unknown, var}
use Rattle.awk_types.specs.Names.{same_name}
use Rattle.awk_types.specs.Simple.{alternatives, present}
use Rattle.awk_types.proofs.TypeShapes.{some_depth}

-- two ways to unify agree where the second type is at most n deep
abbrev pub Agree : ℕ → Unifying → Unifying → Type 0
Agree n u w = (a b : DataType) → depth b ≤ n → u a b ≡ w a b

abbrev pub Deepest : List DataType → ℕ
Deepest ts = greatest (depths (types_from ts))

pub deepest_list : (ts : DataTypes) → Deepest (type_list ts) ≡ greatest (depths ts)
deepest_list no_types = refl
deepest_list (type t ts) = ap (max (depth t)) (deepest_list ts)

parts_agree : (n : ℕ) (u w : Unifying) → Agree n u w → (firsts bs : List DataType) → Deepest bs ≤ n
    → unify_parts u firsts bs ≡ unify_parts w firsts bs
parts_agree n u w g [] bs h = refl
parts_agree n u w g (a ∷ firsts) [] h = refl
parts_agree n u w g (a ∷ firsts) (b ∷ bs) h =
    let first : u a b ≡ w a b = g a b (omega arith) in
    let rest : unify_parts u firsts bs ≡ unify_parts w firsts bs = parts_agree n u w g firsts bs
    (omega arith) in
    rw (first, rest)

-- the fields that are picked are no deeper

abbrev IfShallow : ℕ → Option DataType → Type 0
IfShallow n None = Unit {0}
IfShallow n (Some t) = depth t ≤ n

abbrev IfShallows : ℕ → Option (List DataType) → Type 0
IfShallows n None = Unit {0}
IfShallows n (Some ts) = Deepest ts ≤ n

if_shallow : (b : Bool) (n : ℕ) (t : DataType) (o : Option DataType) → depth t ≤ n → IfShallow n o
    → IfShallow n (if b then Some t else o)
if_shallow true n t o h k = h
if_shallow false n t o h k = k

field_shallow : (m : ℕ) (n : Name) (ms : List Name) (us : List DataType) → Deepest us ≤ m
    → IfShallow m (field_type n ms us)
field_shallow m n [] us h = tt
field_shallow m n (k ∷ ms) [] h = tt
field_shallow m n (k ∷ ms) (u ∷ us) h =
    if_shallow (same_name n k) m u (field_type n ms us) (omega arith)
    (field_shallow m n ms us (omega arith))

with_shallow : (m : ℕ) (o : Option DataType) (os : Option (List DataType)) → IfShallow m o
    → IfShallows m os → IfShallows m (with_type o os)
with_shallow m (Some t) (Some ts) h k = omega arith
with_shallow m (Some t) None h k = tt
with_shallow m None os h k = tt

picked_shallow : (m : ℕ) (ns ms : List Name) (us : List DataType) → Deepest us ≤ m
    → IfShallows m (picked ns ms us)
picked_shallow m [] ms us h = omega arith
picked_shallow m (n ∷ ns) ms us h =
    with_shallow m (field_type n ms us) (picked ns ms us) (field_shallow m n ms us h)
    (picked_shallow m ns ms us h)

rec_agree : (n : ℕ) (u w : Unifying) → Agree n u w
    → (ns ms : List Name) (ts : List DataType) (o : Option (List DataType)) → IfShallows n o
    → rec_join u ns ms ts o ≡ rec_join w ns ms ts o
rec_agree n u w g ns ms ts None h = refl
rec_agree n u w g ns ms ts (Some us) h = rw (parts_agree n u w g ts us h)

join_agree : (n : ℕ) (u w : Unifying) → Agree n u w → (a b : DataType) → depth b ≤ suc n
    → join_by u a b ≡ join_by w a b
join_agree n u w g unknown unknown h = refl
join_agree n u w g (leaf p) (leaf q) h = refl
join_agree n u w g (var a) (var b) h = ap (list_join var) (g a b (omega arith))
join_agree n u w g (var a) (reg m b) h = ap (list_join var) (g a b (omega arith))
join_agree n u w g (reg k a) (var b) h = ap (list_join var) (g a b (omega arith))
join_agree n u w g (reg k a) (reg m b) h =
    ap (λ r. if k == m then list_join (reg k) r else list_join var r) (g a b (omega arith))
join_agree n u w g (tup ts) (tup us) h =
    ap (λ r. if length (type_list ts) == length (type_list us) then tup_join r else None)
    (parts_agree n u w g (type_list ts) (type_list us) (omega (arith, deepest_list us)))
join_agree n u w g (rec ns ts) (rec ms us) h =
    ap (λ r. if alike ns ms then r else None) (rec_agree n u w g ns ms (type_list ts)
    (picked ns ms (type_list us)) (picked_shallow n ns ms (type_list us)
    (omega (arith, deepest_list us))))
join_agree n u w g a b h = refl

insert_agree : (n : ℕ) (u w : Unifying) → Agree n u w → (firsts : List DataType) (b : DataType)
    → depth b ≤ suc n → insert (join_by u) firsts b ≡ insert (join_by w) firsts b
insert_agree n u w g [] b h = refl
insert_agree n u w g (a ∷ firsts) b h =
    ap (λ o. chosen a firsts o (insert (join_by u) firsts b)) (join_agree n u w g a b h) ∙ ap
    (chosen a firsts (join_by w a b)) (insert_agree n u w g firsts b h)

all_agree : (n : ℕ) (u w : Unifying) → Agree n u w → (p : PlacedAll) (bs : List DataType)
    → Deepest bs ≤ suc n → insert_all (join_by u) p bs ≡ insert_all (join_by w) p bs
all_agree n u w g p [] h = refl
all_agree n u w g p (b ∷ bs) h =
    ap (λ s. insert_all (join_by u) (further p s) bs) (insert_agree n u w g p.typs b (omega arith))
    ∙ all_agree n u w g (further p (insert (join_by w) p.typs b)) bs (omega arith)

deepest_alternatives : (b : DataType) → Deepest (alternatives b) ≤ depth b
deepest_alternatives (uni us) = omega (arith, deepest_list us)
deepest_alternatives b = omega arith

later_agree : (n : ℕ) (u w : Unifying) → Agree n u w → (a b : DataType) → depth b ≤ suc n
    → joins_or_unions u a b ≡ joins_or_unions w a b
later_agree n u w g a b h =
    let first : join_by u a b ≡ join_by w a b = join_agree n u w g a b h in
    let rest : insert_all (join_by u) (start (alternatives a)) (alternatives b) ≡ insert_all
    (join_by w) (start (alternatives a)) (alternatives b) =
    all_agree n u w g (start (alternatives a)) (alternatives b)
    (omega (arith, deepest_alternatives b)) in
    rw (first, rest)

present_shallow : (b : DataType) → depth (present b) ≤ depth b
present_shallow (opt b) = omega arith
present_shallow b = omega arith

pub rules_agree : (n : ℕ) (u w : Unifying) → Agree n u w → Agree (suc n) (rules u) (rules w)
rules_agree n u w g a b h =
    let first : joins_or_unions u a b ≡ joins_or_unions w a b = later_agree n u w g a b h in
    let rest : joins_or_unions u (present a) (present b) ≡ joins_or_unions w (present a)
    (present b) =
    later_agree n u w g (present a) (present b) (omega (arith, present_shallow b)) in
    rw (first, rest)

-- any two numbers of steps that are enough give the same
pub steps_agree : (n m : ℕ) (a b : DataType) → depth b ≤ n → depth b ≤ m
    → unification_at n a b ≡ unification_at m a b
steps_agree zero m a b h k = absurd (omega (arith, some_depth b))
steps_agree (suc n) zero a b h k = absurd (omega (arith, some_depth b))
steps_agree (suc n) (suc m) a b h k =
    rules_agree (min n m) (unification_at n) (unification_at m)
    (λ c d l. steps_agree n m c d (omega arith) (omega arith)) a b (omega arith)

-- the six rules hold of unifying itself
pub unify_rules : (a b : DataType) → unification a b ≡ rules unification a b
unify_rules a b =
    steps_agree (depth b) (suc (depth b - 1)) a b (omega arith) (omega arith)
    ∙ rules_agree (depth b - 1) (unification_at (depth b - 1)) unification
    (λ c d l. steps_agree (depth b - 1) (depth d) c d l (omega arith)) a b (omega arith)
