-- Which types join, and what they make, where their parts unify by a given function.
use Rattle.std.specs.Prelude.{◌&&◌, ◌==◌, ◌∷◌, ◌++◌, [], if◌then◌else◌, List, None, Option, Some}
use Rattle.std.specs.Prelude.{length, map}
use Rattle.awk_unify.specs.Carry.{in_items, keep}
use Rattle.awk_unify.specs.FieldNames.{alike, in_own, picked, to_names}
use Rattle.awk_unify.specs.Unification.{Unification, Unifications}
use Rattle.awk_types.specs.DataType.{DataType, Name, leaf, rec, reg, tup, type_list, types_from}
use Rattle.awk_types.specs.DataType.{unknown, var}
use Rattle.awk_primitives.specs.Promotion.{promotion}
use Rattle.awk_types.specs.SameType.{same_primitive}
use Rattle.awk_types.specs.View.{NamedType, names_of}
use Rattle.awk_types.specs.declared.primitive.Primitive.{Primitive}
use Rattle.awk_types.specs.declared.primitive.Primitive.TheVariants.{Bool}

abbrev pub Unifying : Type 0
Unifying = DataType → DataType → Unification

abbrev pub Joining : Type 0
Joining = DataType → DataType → Option Unification

-- what no parts unify to, and a further part at the end
abbrev pub no_parts : Unifications
no_parts = record { typs = []; lefts = []; rights = [] }

abbrev pub one_more : Unifications → Unification → Unifications
one_more p r =
    record {
      typs = p.typs ++ r.typ ∷ [];
      lefts = p.lefts ++ r.left ∷ [];
      rights = p.rights ++ r.right ∷ [];
    }

abbrev pub with_first : Unification → Unifications → Unifications
with_first r p =
    record { typs = r.typ ∷ p.typs; lefts = r.left ∷ p.lefts; rights = r.right ∷ p.rights }

-- part by part
abbrev pub unify_parts : Unifying → List DataType → List DataType → Unifications
unify_parts u (a ∷ firsts) (b ∷ bs) = with_first (u a b) (unify_parts u firsts bs)
unify_parts u firsts bs = no_parts

abbrev pub leaf_type : Primitive → Primitive → Option Primitive
leaf_type p q =
    if same_primitive p Bool && same_primitive q Bool then Some Bool else promotion p q

abbrev pub leaf_join : Option Primitive → Option Unification
leaf_join None = None
leaf_join (Some p) = Some (record { typ = leaf p; left = keep; right = keep })

abbrev pub list_join : (DataType → DataType) → Unification → Option Unification
list_join c u =
    Some (record { typ = c u.typ; left = in_items u.left; right = in_items u.right })

abbrev pub tup_join : Unifications → Option Unification
tup_join u =
    Some (record {
      typ = tup (types_from u.typs);
      left = in_own u.lefts;
      right = in_own u.rights;
    })

-- where the second record has each name of the first
abbrev pub unify_picked : Unifying → List DataType → Option (List DataType) → Option Unifications
unify_picked u ts None = None
unify_picked u ts (Some us) = Some (unify_parts u ts us)

abbrev pub rec_of : List Name → List Name → Option Unifications → Option Unification
rec_of ns ms None = None
rec_of ns ms (Some r) =
    Some (record {
      typ = rec ns (types_from r.typs);
      left = in_own r.lefts;
      right = to_names ns ms r.rights;
    })

abbrev pub rec_join : Unifying → List Name → List Name → List DataType → Option (List DataType)
    → Option Unification
rec_join u ns ms ts us = rec_of ns ms (unify_picked u ts us)

abbrev pub join_by : Unifying → Joining
join_by u unknown unknown = Some (record { typ = unknown; left = keep; right = keep })
join_by u (leaf p) (leaf q) = leaf_join (leaf_type p q)
join_by u (var a) (var b) = list_join var (u a b)
join_by u (var a) (reg m b) = list_join var (u a b)
join_by u (reg n a) (var b) = list_join var (u a b)
join_by u (reg n a) (reg m b) =
    if n == m then list_join (reg n) (u a b) else list_join var (u a b)
join_by u (tup ts) (tup us) =
    if length (type_list ts) == length (type_list us)
    then tup_join (unify_parts u (type_list ts) (type_list us))
    else None
join_by u (rec ns ts) (rec ms us) =
    if alike ns ms
    then rec_join u ns ms (type_list ts) (picked ns ms (type_list us))
    else None
join_by u a b = None

-- the same of fields as lists
abbrev pub field_types : List NamedType → List DataType
field_types fields = map (λ f. f.typ) fields

abbrev pub unify_fields : Unifying → List NamedType → List NamedType → Option Unifications
unify_fields u xs ys =
    unify_picked u (field_types xs) (picked (names_of xs) (names_of ys) (field_types ys))

abbrev pub join_records : Unifying → List NamedType → List NamedType → Option Unification
join_records u xs ys =
    if alike (names_of xs) (names_of ys)
    then rec_of (names_of xs) (names_of ys) (unify_fields u xs ys)
    else None
