-- The steps of unifying, by what its calls answer.
use Rattle.std.proofs.Common.{◌≡◌, ◌==◌, List, map, length, ap, sym, ◌∙◌}
use Rattle.std.specs.Prelude.{Option, Some, None, if◌then◌else◌}
use Rattle.awk_types.specs.DataType.{Name, DataType, rec, tup, types_from, type_list}
use Rattle.awk_types.specs.Simple.{alternatives}
use Rattle.awk_types.specs.View.{names_of, types_of, typ_of, fields_of, typs_of}
use Rattle.awk_types.specs.declared.typ.Typ.{Typ, Tup, Uni, Rec}
use Rattle.awk_types.specs.declared.typ.Typs.{Typs}
use Rattle.awk_types.specs.declared.typ.Fields.{Fields}
use Rattle.awk_types.proofs.Trees.{type_list-from}
use Rattle.awk_types.proofs.Views.{typ_of-Tup, typ_of-Uni, typ_of-Rec}
use Rattle.awk_unify.specs.Early.{early}
use Rattle.awk_unify.specs.FieldNames.{alike, picked}
use Rattle.awk_unify.specs.Join.{Joining, join_by, join_records, rec_join, tup_join, unify_parts}
use Rattle.awk_unify.specs.Merge.{insert_all, start}
use Rattle.awk_unify.specs.Unification.{Unification, Unifications, PlacedAll}
use Rattle.awk_unify.specs.Unify.{bare, unification}
use Rattle.awk_unify.specs.View.{unified_of, found_of}
use Rattle.awk_unify.specs.declared.unified.Unified.{Unified}
use Rattle.awk_unify.proofs.Rules.{unified_early, bare_early}
use Rattle.awk_unify.proofs.Tests.{eq_false, eq_true}

pub early_found : (o : Option Unified) (u : Unified) (a b : DataType) → found_of o ≡ early a b
    → o ≡ Some u → unified_of u ≡ unification a b
early_found o u a b e s = sym (unified_early a b (unified_of u) (sym e ∙ ap found_of s))

pub bare_found : (o : Option Unified) (u : Unified) (a b : DataType) → found_of o ≡ early a b
    → o ≡ Some u → unified_of u ≡ bare unification a b
bare_found o u a b e s = sym (bare_early a b (unified_of u) (sym e ∙ ap found_of s))

pub join_found : (o : Option Unified) (u : Unified) (j : Option Unification) → found_of o ≡ j
    → o ≡ Some u → j ≡ Some (unified_of u)
join_found o u j e s = sym e ∙ ap found_of s

pub join_none : (o : Option Unified) (j : Option Unification) → found_of o ≡ j → o ≡ None → j ≡ None
join_none o j e s = sym e ∙ ap found_of s

-- ---- tuples and records

abbrev records : List Name → List Name → List DataType → List DataType → Option Unification
records ns ms xs ys = if alike ns ms then rec_join unification ns ms xs (picked ns ms ys) else None

abbrev join_tuples : List DataType → List DataType → Option Unification
join_tuples xs ys =
    if length xs == length ys then tup_join (unify_parts unification xs ys) else None

tuples_join : (a b : Typ) (xs ys : Typs) → a ≡ Tup xs → b ≡ Tup ys
    → join_by unification (typ_of a) (typ_of b) ≡ join_tuples (typs_of xs) (typs_of ys)
tuples_join a b xs ys e f =
    ap (λ x. join_by unification x (typ_of b)) (ap typ_of e ∙ typ_of-Tup xs)
    ∙ ap (join_by unification (tup (types_from (typs_of xs)))) (ap typ_of f ∙ typ_of-Tup ys)
    ∙ ap (λ zs. join_tuples zs (type_list (types_from (typs_of ys)))) (type_list-from (typs_of xs))
    ∙ ap (join_tuples (typs_of xs)) (type_list-from (typs_of ys))

pub tuples_of_one_length : (a b : Typ) (xs ys : Typs) (p : Unifications) → a ≡ Tup xs → b ≡ Tup ys
    → length (typs_of xs) ≡ length (typs_of ys)
    → p ≡ unify_parts unification (typs_of xs) (typs_of ys)
    → tup_join p ≡ join_by unification (typ_of a) (typ_of b)
tuples_of_one_length a b xs ys p e f g h =
    ap tup_join h ∙ sym (tuples_join a b xs ys e f ∙ ap
    (λ x. if x then tup_join (unify_parts unification (typs_of xs) (typs_of ys)) else None)
    (eq_true _ _ g))

pub tuples_of_other_lengths : (a b : Typ) (xs ys : Typs) → a ≡ Tup xs → b ≡ Tup ys
    → (length (typs_of xs) ≡ length (typs_of ys) → ⊥)
    → None ≡ join_by unification (typ_of a) (typ_of b)
tuples_of_other_lengths a b xs ys e f d =
    sym (tuples_join a b xs ys e f ∙ ap (λ x. if x then tup_join
    (unify_parts unification (typs_of xs) (typs_of ys)) else None) (eq_false _ _ d))

pub records_join : (a b : Typ) (xs ys : Fields) → a ≡ Rec xs → b ≡ Rec ys
    → join_records unification (fields_of xs) (fields_of ys) ≡ join_by unification (typ_of a)
    (typ_of b)
records_join a b xs ys e f =
    sym (ap (λ x. join_by unification x (typ_of b)) (ap typ_of e ∙ typ_of-Rec xs)
    ∙ ap (join_by unification (rec (names_of (fields_of xs)) (types_of (fields_of xs))))
    (ap typ_of f ∙ typ_of-Rec ys)
    ∙ ap (λ zs. records (names_of (fields_of xs)) (names_of (fields_of ys)) zs
    (type_list (types_of (fields_of ys)))) (type_list-from (map (λ f. f.typ) (fields_of xs)))
    ∙ ap (records (names_of (fields_of xs)) (names_of (fields_of ys))
    (map (λ f. f.typ) (fields_of xs))) (type_list-from (map (λ f. f.typ) (fields_of ys))))

-- ---- alternatives

pub union_alternatives : (t : Typ) (ts : Typs) → t ≡ Uni ts → typs_of ts ≡ alternatives (typ_of t)
union_alternatives t ts e =
    sym (ap (λ x. alternatives (typ_of x)) e ∙ ap alternatives (typ_of-Uni ts) ∙ type_list-from
    (typs_of ts))

pub merged_union : (join : Joining) (a : DataType) (b : Typ) (bs : Typs) (ts : List DataType)
    (s p : PlacedAll) → p ≡ insert_all join s (typs_of bs) → s ≡ start ts → ts ≡ alternatives a → b
    ≡ Uni bs → p ≡ insert_all join (start (alternatives a)) (alternatives (typ_of b))
merged_union join a b bs ts s p e f g h =
    e ∙ ap (λ x. insert_all join x (typs_of bs)) (f ∙ ap start g) ∙ ap
    (insert_all join (start (alternatives a))) (union_alternatives b bs h)
