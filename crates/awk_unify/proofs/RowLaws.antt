-- Leaves, lists and rows whose parts are carried.
use Rattle.std.proofs.Common.{◌≡◌, ◌+◌, ◌≤◌, ◌<◌, ◌&&◌, ◌==◌, ◌∷◌, [], ◌≢◌, ℕ, ◌∙◌, List}
use Rattle.std.proofs.Common.{Bool as Truth, ap, arith, false, length, refl, subst, suc, sym, true}
use Rattle.std.proofs.Common.{zero}
use Rattle.std.proofs.lemmas.Bool.{and_parts}
use Rattle.std.specs.List.{AllByRecursion}
use Rattle.std.specs.Prelude.{if◌then◌else◌, IfSome, None, Option, Some}
use Rattle.awk_unify.proofs.AfterLaws.{AllInPlace, Apart, ArePlaces, FitEach, Fits, InPlace}
use Rattle.awk_unify.proofs.AfterLaws.{in_order_same, length_places}
use Rattle.awk_unify.proofs.DepthLaws.{Deepest, deepest_list}
use Rattle.awk_unify.proofs.HasLaws.{of_list, reg_var}
use Rattle.awk_unify.specs.Carry.{Carry, carried, carried_each, carries_from, in_items, in_order}
use Rattle.awk_unify.specs.FieldNames.{in_own}
use Rattle.awk_unify.specs.Join.{Unifying, leaf_join, list_join, tup_join, unify_parts}
use Rattle.awk_unify.specs.Places.{places, places_from}
use Rattle.awk_unify.specs.Unification.{Unification, Unifications}
use Rattle.awk_primitives.proofs.PromotionLaws.{promotion_holds}
use Rattle.awk_unify.proofs.SameTypeLaws.{same_primitive_is}
use Rattle.awk_types.proofs.SimpleLaws.{has_list, has_reg}
use Rattle.awk_types.proofs.Trees.{types_from-list, value_list-from}
use Rattle.awk_types.proofs.TypeLaws.{type_list_are_types}
use Rattle.awk_types.specs.DataType.{DataType, DataTypes, depths, greatest, leaf, reg, tup}
use Rattle.awk_types.specs.DataType.{type_list, types_from, var}
use Rattle.awk_types.specs.Has.{Has, HasRow}
use Rattle.awk_types.specs.IsType.{AreTypes}
use Rattle.awk_primitives.specs.Promotion.{HoldsAll, is_whole, promotion}
use Rattle.awk_types.specs.SameType.{same_primitive}
use Rattle.awk_types.specs.Simple.{AreSimple, values_by}
use Rattle.awk_types.specs.Value.{Value, int, list, row, value_list}
use Rattle.awk_types.specs.declared.primitive.Primitive.{Primitive}
use Rattle.awk_types.specs.declared.primitive.Primitive.TheVariants.{Bool}
use Rattle.awk_unify.proofs.CarriedLaws.{Good, IfJoins, IsCarried, Takes}

-- ---- leaves and lists

-- the numbers of a type that a wider one holds
number_has : (p r : Primitive) → is_whole p ≡ true → HoldsAll p r → (v : Value) → Has (leaf p) v
    → Has (leaf r) v
number_has p r w h (int z) k = h z k
number_has Bool r w h v k = cc
number_has p r w h v k = absurd k

-- what promotes is two whole-number types
were_whole : (b : Truth) (x : Option Primitive) (r : Primitive) → (if b then x else None) ≡ Some r
    → b ≡ true
were_whole true x r e = refl
were_whole false x r e = cc

promoted_carries : (p q : Primitive) (o : Option Primitive) → promotion p q ≡ o
    → IfSome o (λ r. HoldsAll p r × HoldsAll q r) → IfJoins (leaf p) (leaf q) (leaf_join o)
promoted_carries p q None e h = tt
promoted_carries p q (Some r) e h =
    let whole : (is_whole p && is_whole q) ≡ true = were_whole _ _ r e in
    record {
      to_left = λ v k. (tt, number_has p r (and_parts _ _ whole).0 h.0 v k);
      to_right =
          λ v k. (tt, number_has q r (and_parts (is_whole p) _ whole).1 h.1 v k);
      in_place = tt;
    }

pub leaf_carries : (b : Truth) (p q : Primitive)
    → (same_primitive p Bool && same_primitive q Bool) ≡ b
    → IfJoins (leaf p) (leaf q) (leaf_join (if b then Some Bool else promotion p q))
leaf_carries true p q e =
    record {
      to_left = λ v h. (
        tt,
        subst (λ x. Has (leaf x) v)
            (same_primitive_is p Bool (and_parts _ _ e).0) h,
      );
      to_right = λ v h. (
        tt,
        subst (λ x. Has (leaf x) v)
            (same_primitive_is q Bool (and_parts (same_primitive p Bool) _ e).1) h,
      );
      in_place = tt;
    }
leaf_carries false p q e = promoted_carries p q (promotion p q) refl (promotion_holds p q)

all_fit : (a t : DataType) (f : Carry) → Takes a f t → (vs : List Value)
    → AllByRecursion (Has a) vs → AllByRecursion (Fits f) vs
all_fit a t f c [] h = tt
all_fit a t f c (v ∷ vs) h = ((c v h.0).0, all_fit a t f c vs h.1)

list_fits : (a t : DataType) (f : Carry) → Takes a f t → (v : Value) → Has (var a) v
    → Fits (in_items f) v
list_fits a t f c (list vs) h = all_fit a t f c (value_list vs) h
list_fits a t f c v h = absurd h

pub var_carry : (a t : DataType) (f : Carry) → Takes a f t → Takes (var a) (in_items f) (var t)
var_carry a t f c v h = (list_fits a t f c v h, has_list a t (carried f) (λ w k. (c w k).1) v h)

reg_carry : (n : ℕ) (a t : DataType) (f : Carry) → Takes a f t
    → Takes (reg n a) (in_items f) (reg n t)
reg_carry n a t f c v h =
    (list_fits a t f c v (reg_var n a v h), has_reg n a t (carried f) (λ w k. (c w k).1) v h)

pub loose_carry : (n : ℕ) (a t : DataType) (f : Carry) → Takes a f t
    → Takes (reg n a) (in_items f) (var t)
loose_carry n a t f c v h = var_carry a t f c v (reg_var n a v h)

pub reg_carries : (x : Truth) (n m : ℕ) (a b : DataType) (r : Unification) → (x ≡ true → n ≡ m)
    → IsCarried a b r
    → IfJoins (reg n a) (reg m b) (if x then list_join (reg n) r else list_join var r)
reg_carries true n m a b r e g = record {
  to_left = reg_carry n a r.typ r.left g.to_left;
  to_right =
      λ v h. reg_carry n b r.typ r.right g.to_right v
      (subst (λ k. Has (reg k b) v) (sym (e refl)) h);
  in_place = g.in_place;
}
reg_carries false n m a b r e g = record {
  to_left = loose_carry n a r.typ r.left g.to_left;
  to_right = loose_carry m b r.typ r.right g.to_right;
  in_place = g.in_place;
}

-- ---- rows

abbrev pub EachCarry : List DataType → List Carry → List DataType → Type 0
EachCarry [] [] [] = Unit {0}
EachCarry (a ∷ firsts) (f ∷ fs) (t ∷ ts) = Takes a f t × EachCarry firsts fs ts
EachCarry firsts fs ts = ⊥

apart_from : (p i n : ℕ) → p < i → Apart p (places_from i n)
apart_from p i zero l = tt
apart_from p i (suc n) l =
    (other i p (omega arith), other p i (omega arith), apart_from p (suc i) n (omega arith))
  where
    other : (x y : ℕ) → x ≢ y → (x == y) ≡ false
    other x y d = grind arith

are_places : (i n m : ℕ) → i + n ≤ m → ArePlaces m (places_from i n)
are_places i zero m l = tt
are_places i (suc n) m l =
    (omega arith, apart_from i (suc i) n (omega arith), are_places (suc i) n m (omega arith))

own_each : (i : ℕ) (firsts : List DataType) (fs : List Carry) (ts : List DataType) (vs : List Value)
    → EachCarry firsts fs ts → HasRow (types_from firsts) vs →
    FitEach (places_from i (length fs)) (carries_from fs) vs × HasRow (types_from ts)
    (values_by (carried_each (carries_from fs)) vs) ×
    (length (values_by (carried_each (carries_from fs)) vs) ≡ length fs)
own_each i [] [] [] [] c h = (tt, tt, refl)
own_each i [] [] [] (v ∷ vs) c h = absurd h
own_each i [] [] (t ∷ ts) vs c h = absurd c
own_each i [] (f ∷ fs) ts vs c h = absurd c
own_each i (a ∷ firsts) [] ts vs c h = absurd c
own_each i (a ∷ firsts) (f ∷ fs) [] vs c h = absurd c
own_each i (a ∷ firsts) (f ∷ fs) (t ∷ ts) [] c h = absurd h
own_each i (a ∷ firsts) (f ∷ fs) (t ∷ ts) (v ∷ vs) c h =
    let one : Fits f v × Has t (carried f v) = c.0 v h.0 in
    let rest : FitEach (places_from (suc i) (length fs)) (carries_from fs) vs × HasRow
    (types_from ts) (values_by (carried_each (carries_from fs)) vs) ×
    (length (values_by (carried_each (carries_from fs)) vs) ≡ length fs) =
    own_each (suc i) firsts fs ts vs c.1 h.1 in
    ((one.0, rest.0), (one.1, rest.1), ap suc rest.2)

pub own_carry : (firsts ts : List DataType) (fs : List Carry) → EachCarry firsts fs ts
    → Takes (tup (types_from firsts)) (in_own fs) (tup (types_from ts))
own_carry firsts ts fs c (row vs) h =
    let each : FitEach (places (length fs)) (carries_from fs) (value_list vs) × HasRow
    (types_from ts) (values_by (carried_each (carries_from fs)) (value_list vs)) ×
    (length (values_by (carried_each (carries_from fs)) (value_list vs)) ≡ length fs) =
    own_each 0 firsts fs ts (value_list vs) c h in
    let xs : List Value = values_by (carried_each (carries_from fs)) (value_list vs) in
    let own : in_order (places (length fs)) xs ≡ xs = subst (λ n. in_order (places n) xs ≡ xs)
    each.2 (in_order_same xs) in (
      (
        subst (λ n. ArePlaces n (places (length fs))) (sym (length_places 0 (length fs)))
            (are_places 0 (length fs) (length fs) (omega arith)),
        each.0,
      ),
      subst (HasRow (types_from ts)) (sym (value_list-from (in_order (places (length fs)) xs) ∙
          own)) each.1,
    )
own_carry firsts ts fs c v h = absurd h

pub record PartsCarry (firsts bs : List DataType) (r : Unifications) : Type 0 where
  pub each_left : EachCarry firsts r.lefts r.typs
  pub each_right : EachCarry bs r.rights r.typs
  pub all_in_place : AllInPlace (carries_from r.lefts)

pub parts_carry : (n : ℕ) (u : Unifying) → Good n u → (firsts bs : List DataType)
    → length firsts ≡ length bs → Deepest bs ≤ n → AreTypes (types_from firsts)
    → AreTypes (types_from bs) → AreSimple (types_from firsts) → AreSimple (types_from bs)
    → PartsCarry firsts bs (unify_parts u firsts bs)
parts_carry n u g [] [] e d s t x y = record { each_left = tt; each_right = tt; all_in_place = tt }
parts_carry n u g [] (b ∷ bs) e d s t x y = absurd (omega arith)
parts_carry n u g (a ∷ firsts) [] e d s t x y = absurd (omega arith)
parts_carry n u g (a ∷ firsts) (b ∷ bs) e d s t x y =
    let one : IsCarried a b (u a b) = g a b (omega arith) s.0 t.0 x.0 y.0 in
    let rest : PartsCarry firsts bs (unify_parts u firsts bs) = parts_carry n u g firsts bs
    (omega arith) (omega arith) s.1 t.1 x.1 y.1 in
    record {
      each_left = (one.to_left, rest.each_left);
      each_right =
          (one.to_right, rest.each_right);
      all_in_place = (one.in_place, rest.all_in_place);
    }

pub own_in_place : (fs : List Carry) → AllInPlace (carries_from fs) → InPlace (in_own fs)
own_in_place fs h = (ap places (sym (length_places 0 (length fs))), h)

pub as_list : (ts : DataTypes) → AreSimple ts → AreSimple (types_from (type_list ts))
as_list ts s = subst AreSimple (sym (types_from-list ts)) s

pub tup_carries : (x : Truth) (n : ℕ) (u : Unifying) → Good n u → (ts us : DataTypes)
    → (x ≡ true → length (type_list ts) ≡ length (type_list us)) → greatest (depths us) ≤ n
    → AreTypes ts → AreTypes us → AreSimple ts → AreSimple us →
    IfJoins (tup ts) (tup us) (if x then tup_join (unify_parts u (type_list ts) (type_list us)) else
    None)
tup_carries true n u g ts us e d s t x y =
    let r : PartsCarry (type_list ts) (type_list us) (unify_parts u (type_list ts) (type_list us)) =
    parts_carry n u g (type_list ts) (type_list us) (e refl) (omega (arith, deepest_list us))
    (type_list_are_types ts s) (type_list_are_types us t) (as_list ts x) (as_list us y) in
    record {
      to_left = λ v h. own_carry _ _ _ r.each_left v (of_list ts v h);
      to_right = λ v h.
          own_carry _ _ _ r.each_right v (of_list us v h);
      in_place = own_in_place _ r.all_in_place;
    }
tup_carries false n u g ts us e d s t x y = tt
