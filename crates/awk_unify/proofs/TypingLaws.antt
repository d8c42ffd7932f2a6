-- What is carried into the type that two types unify to is of it.
use Rattle.std.proofs.Common.{◌≡◌, ◌≤◌, ◌||◌, ◌&&◌, ◌==◌, ◌∷◌, [], ℕ, List, Bool as Truth, arith}
use Rattle.std.proofs.Common.{false, length, refl, subst, suc, sym, true, zero}
use Rattle.std.specs.Prelude.{if◌then◌else◌, None, Option, Some}
use Rattle.awk_base.proofs.Truths.{eq_is}
use Rattle.awk_unify.proofs.AfterLaws.{AllInPlace}
use Rattle.awk_unify.proofs.SimpleLaws.{Simply, deepest_alternatives, not_opts, not_uni}
use Rattle.awk_unify.proofs.SimpleLaws.{present_shallow, steps_simple}
use Rattle.awk_unify.proofs.Tests.{unknown_is}
use Rattle.awk_unify.proofs.TypeLaws.{Types, steps_type}
use Rattle.awk_unify.specs.Carry.{Carry, carries_from, keep}
use Rattle.awk_unify.specs.FieldNames.{alike}
use Rattle.awk_unify.specs.Join.{Unifying, join_by}
use Rattle.awk_unify.specs.Merge.{start, insert_all, merged}
use Rattle.awk_unify.specs.Unification.{Unification}
use Rattle.awk_unify.specs.Unify.{apart, bare, equal_or_unknown, in_unions, joined_or}
use Rattle.awk_unify.specs.Unify.{joins_or_unions, optional, options_or, unification}
use Rattle.awk_unify.specs.Unify.{unification_at}
use Rattle.awk_types.specs.Predicates.{is_unknown}
use Rattle.awk_unify.proofs.SameTypeLaws.{same_type_is}
use Rattle.awk_types.proofs.SimpleLaws.{alternatives_plain, present_no_option, present_simple}
use Rattle.awk_types.proofs.TypeLaws.{alternatives_are_types, present_is_type}
use Rattle.awk_types.specs.DataType.{DataType, depth, leaf, rec, reg, tup, type_list, uni, unknown}
use Rattle.awk_types.specs.DataType.{var}
use Rattle.awk_types.specs.Has.{Has}
use Rattle.awk_types.specs.IsType.{IsType}
use Rattle.awk_types.specs.SameType.{same_primitive, same_type}
use Rattle.awk_types.specs.Simple.{IsSimple, alternatives, is_option, is_union, present}
use Rattle.awk_types.specs.declared.primitive.Primitive.TheVariants.{Bool}
use Rattle.awk_types.proofs.TypeShapes.{some_depth}
use Rattle.awk_unify.proofs.AlternativeLaws.{AllCarried, AllFine, Joins, Kept, PutAll, alts_carry}
use Rattle.awk_unify.proofs.AlternativeLaws.{insert_all_carries, kept_put, kept_same}
use Rattle.awk_unify.proofs.CarriedLaws.{Good, IfJoins, IsCarried, opt_carry, stays}
use Rattle.awk_unify.proofs.NameRowLaws.{rec_carries}
use Rattle.awk_unify.proofs.RowLaws.{leaf_carries, loose_carry, reg_carries, tup_carries, var_carry}

-- ---- joining

pub join_carries : (n : ℕ) (u : Unifying) → Good n u → Joins (suc n) (join_by u)
join_carries n u g unknown unknown d s t x y =
    record { to_left = λ v h. (tt, h); to_right = λ v h. (tt, h); in_place = tt }
join_carries n u g (leaf p) (leaf q) d s t x y =
    leaf_carries (same_primitive p Bool && same_primitive q Bool) p q refl
join_carries n u g (var a) (var b) d s t x y =
    let r : IsCarried a b (u a b) = g a b (omega arith) s t x y in
    record {
      to_left = var_carry a _ _ r.to_left;
      to_right = var_carry b _ _ r.to_right;
      in_place =
          r.in_place;
    }
join_carries n u g (var a) (reg m b) d s t x y =
    let r : IsCarried a b (u a b) = g a b (omega arith) s t x y in
    record {
      to_left = var_carry a _ _ r.to_left;
      to_right = loose_carry m b _ _ r.to_right;
      in_place = r.in_place;
    }
join_carries n u g (reg k a) (var b) d s t x y =
    let r : IsCarried a b (u a b) = g a b (omega arith) s t x y in
    record {
      to_left = loose_carry k a _ _ r.to_left;
      to_right = var_carry b _ _ r.to_right;
      in_place = r.in_place;
    }
join_carries n u g (reg k a) (reg m b) d s t x y =
    reg_carries (k == m) k m a b (u a b) (eq_is k m) (g a b (omega arith) s t x y)
join_carries n u g (tup ts) (tup us) d s t x y =
    tup_carries (length (type_list ts) == length (type_list us)) n u g ts us (eq_is _ _)
    (omega arith) s t x y
join_carries n u g (rec ns ts) (rec ms us) d s t x y =
    rec_carries (alike ns ms) n u g ns ms ts us refl (omega arith) s t x y
join_carries n u g a b d s t x y = tt

-- ---- the rules

one_alternative : (a : DataType) → is_union a ≡ false → a ∷ [] ≡ alternatives a
one_alternative (uni ts) e = cc
one_alternative a e = refl

apart_carries : (a b : DataType) → is_option a ≡ false → is_option b ≡ false
    → (is_union a ≡ false) × (is_union b ≡ false) → IsCarried a b (apart a b)
apart_carries a b p q e = record {
  to_left =
      alts_carry a (0 ∷ []) (keep ∷ []) (a ∷ b ∷ []) p
      (subst (λ xs. PutAll xs (0 ∷ []) (keep ∷ []) (a ∷ b ∷ [])) (one_alternative a e.0)
      (stays a, tt));
  to_right =
      alts_carry b (1 ∷ []) (keep ∷ []) (a ∷ b ∷ []) q
      (subst (λ xs. PutAll xs (1 ∷ []) (keep ∷ []) (a ∷ b ∷ [])) (one_alternative b e.1)
      (stays b, tt));
  in_place = (tt, tt);
}

kept_in_place : (firsts : List DataType) (fs : List Carry) (us : List DataType) → Kept firsts fs us
    → AllInPlace (carries_from fs)
kept_in_place [] [] us k = tt
kept_in_place [] (f ∷ fs) us k = absurd k
kept_in_place (a ∷ firsts) [] us k = absurd k
kept_in_place (a ∷ firsts) (f ∷ fs) [] k = absurd k
kept_in_place (a ∷ firsts) (f ∷ fs) (u ∷ us) k = (k.1, kept_in_place firsts fs us k.2)

union_carries : (b : Truth) (n : ℕ) (u : Unifying) → Good n u → Simply n u → Types u
    → (a c : DataType) → (is_union a || is_union c) ≡ b → depth c ≤ suc n → IsType a → IsType c
    → IsSimple a → IsSimple c → is_option a ≡ false → is_option c ≡ false →
    IsCarried a c (if b then merged (insert_all (join_by u) (start (alternatives a))
    (alternatives c)) else apart a c)
union_carries true n u g si ty a c e d s t x y p q =
    let fa : AllFine (alternatives a) = (
      (alternatives_are_types a s).0,
      alternatives_plain a x
          p,
    ) in
    let fc : AllFine (alternatives c) = (
      (alternatives_are_types c t).0,
      alternatives_plain c y
          q,
    ) in
    let all : AllCarried (alternatives a) (alternatives c)
    (insert_all (join_by u) (start (alternatives a)) (alternatives c)) =
    insert_all_carries n u si ty (join_carries n u g) (alternatives a) [] (start (alternatives a))
    (alternatives c) (omega (arith, deepest_alternatives c))
    (record { all_kept = kept_same (alternatives a); all_put = tt; all_fine = fa }) fc in
    record {
      to_left = alts_carry a _ _ _ p (kept_put 0 [] (alternatives a) _ _ refl all.all_kept);
      to_right = alts_carry c _ _ _ q all.all_put;
      in_place = kept_in_place (alternatives a) _ _ all.all_kept;
    }
union_carries false n u g si ty a c e d s t x y p q = apart_carries a c p q (not_uni a c e)

joined_carries : (a b : DataType) (o : Option Unification) (r : Unification) → IfJoins a b o
    → IsCarried a b r → IsCarried a b (joined_or o r)
joined_carries a b (Some j) r h k = h
joined_carries a b None r h k = k

later_carries : (n : ℕ) (u : Unifying) → Good n u → Simply n u → Types u → (a b : DataType)
    → depth b ≤ suc n → IsType a → IsType b → IsSimple a → IsSimple b → is_option a ≡ false
    → is_option b ≡ false → IsCarried a b (joins_or_unions u a b)
later_carries n u g si ty a b d s t x y p q =
    joined_carries a b (join_by u a b) (in_unions u a b) (join_carries n u g a b d s t x y)
    (union_carries (is_union a || is_union b) n u g si ty a b refl d s t x y p q)

first_carries : (e p q : Truth) (a b : DataType) (r : Unification) → (e ≡ true → a ≡ b)
    → (p ≡ true → a ≡ unknown) → (q ≡ true → b ≡ unknown) → IsCarried a b r →
    IsCarried a b (if e then record { typ = a; left = keep; right = keep } else if p then
    record { typ = b; left = keep; right = keep } else if q then
    record { typ = a; left = keep; right = keep } else r)
first_carries true p q a b r e f g k = record {
  to_left = stays a;
  to_right = λ v h.
      (tt, subst (λ t. Has t v) (sym (e refl)) h);
  in_place = tt;
}
first_carries false true q a b r e f g k = record {
  to_left = λ v h. absurd
      (subst (λ t. Has t v) (f refl) h);
  to_right = stays b;
  in_place = tt;
}
first_carries false false true a b r e f g k =
    record {
      to_left = stays a;
      to_right = λ v h. absurd (subst (λ t. Has t v) (g refl) h);
      in_place = tt;
    }
first_carries false false false a b r e f g k = k

equal_carries : (a b : DataType) (r : Unification) → IsCarried a b r
    → IsCarried a b (equal_or_unknown a b r)
equal_carries a b r k =
    first_carries (same_type a b) (is_unknown a) (is_unknown b) a b r (same_type_is a b)
    (unknown_is a) (unknown_is b) k

options_carries : (o : Truth) (n : ℕ) (u : Unifying) → Good n u → Simply n u → Types u
    → (a b : DataType) → (is_option a || is_option b) ≡ o → depth b ≤ suc n → IsType a → IsType b
    → IsSimple a → IsSimple b →
    IsCarried a b (if o then optional (bare u (present a) (present b)) else joins_or_unions u a b)
options_carries true n u g si ty a b e d s t x y =
    let r : IsCarried (present a) (present b) (bare u (present a) (present b)) = equal_carries
    (present a) (present b) _ (later_carries n u g si ty (present a) (present b)
    (omega (arith, present_shallow b)) (present_is_type a s) (present_is_type b t)
    (present_simple a x) (present_simple b y) (present_no_option a x)
    (present_no_option b y)) in
    record {
      to_left = opt_carry a _ _ r.to_left;
      to_right = opt_carry b _ _ r.to_right;
      in_place =
          r.in_place;
    }
options_carries false n u g si ty a b e d s t x y =
    later_carries n u g si ty a b d s t x y (not_opts a b e).0 (not_opts a b e).1

pub steps_carry : (n : ℕ) → Good n (unification_at n)
steps_carry zero a b d s t x y = absurd (omega (arith, some_depth b))
steps_carry (suc n) a b d s t x y =
    equal_carries a b (options_or (unification_at n) a b)
    (options_carries (is_option a || is_option b) n (unification_at n) (steps_carry n)
    (steps_simple n) (steps_type n) a b refl d s t x y)

-- both carries keep typing
pub unify_carries : (a b : DataType) → IsType a → IsType b → IsSimple a → IsSimple b
    → IsCarried a b (unification a b)
unify_carries a b s t x y = steps_carry (depth b) a b (omega arith) s t x y
