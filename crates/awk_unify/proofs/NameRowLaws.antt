-- Rows of a record, whose parts go to the places of their names.
use Rattle.std.proofs.Common.{◌≡◌, ◌+◌, ◌≤◌, ◌<◌, ◌||◌, ◌==◌, ◌∷◌, [], ℕ, ◌∙◌, List, Bool as Truth}
use Rattle.std.proofs.Common.{ap, arith, false, length, map, refl, subst, suc, sym, true, zero}
use Rattle.std.proofs.lemmas.List.{length-map}
use Rattle.std.proofs.lemmas.Bool.{and_parts, or_parts}
use Rattle.std.specs.List.{list_all, list_any}
use Rattle.std.specs.Prelude.{if◌then◌else◌, None, Option, Some}
use Rattle.std.proofs.lemmas.Option.{same_Some}
use Rattle.awk_base.proofs.Truths.{eq_is}
use Rattle.awk_name_places.specs.Places.{place_in}
use Rattle.awk_unify.proofs.AfterLaws.{Apart, ArePlaces, FitEach, Fits}
use Rattle.awk_unify.proofs.DepthLaws.{deepest_list}
use Rattle.awk_unify.proofs.HasLaws.{of_list, rec_tup, tup_rec}
use Rattle.awk_unify.proofs.SimpleLaws.{IfAllFine, picked_fine}
use Rattle.awk_unify.proofs.TypeLaws.{IfFields, picked_ok}
use Rattle.awk_unify.specs.Carries.{carry_at}
use Rattle.awk_unify.specs.Carry.{Carry, at_place, carried, carried_each, carries_from, in_order}
use Rattle.awk_unify.specs.FieldNames.{alike, field_type, in_own, is_in, picked, to_names}
use Rattle.awk_unify.specs.FieldNames.{with_type}
use Rattle.awk_unify.specs.Join.{Unifying, rec_join, unify_parts}
use Rattle.awk_unify.specs.Places.{places, places_from}
use Rattle.awk_types.proofs.NameLaws.{same_name-refl, same_name_is}
use Rattle.awk_types.proofs.Trees.{value_list-from}
use Rattle.awk_types.proofs.TypeLaws.{type_list_are_types}
use Rattle.awk_types.specs.DataType.{DataType, DataTypes, Name, depths, greatest, rec, tup}
use Rattle.awk_types.specs.DataType.{type_list, types_from, unknown}
use Rattle.awk_types.specs.Has.{Has, HasRow}
use Rattle.awk_types.specs.IsType.{IsType}
use Rattle.awk_types.specs.Names.{AreDistinct, is_among, same_name}
use Rattle.awk_types.specs.Simple.{AreSimple, values_by}
use Rattle.awk_types.specs.Value.{Value, row, value_list}
use Rattle.awk_types.proofs.DistinctLaws.{same_name-flips}
use Rattle.awk_unify.proofs.CarriedLaws.{Good, IfJoins, Takes}
use Rattle.awk_unify.proofs.RowLaws.{EachCarry, PartsCarry, as_list, own_carry, own_in_place}
use Rattle.awk_unify.proofs.RowLaws.{parts_carry}

-- ---- records: the parts go to the places of their names

name_of : (n m : Name) → n ≡ m → same_name n m ≡ true
name_of n m e = subst (λ k. same_name n k ≡ true) e (same_name-refl n)

abbrev name_at : List Name → ℕ → Name
name_at [] k = []
name_at (n ∷ ns) zero = n
name_at (n ∷ ns) (suc k) = name_at ns k

abbrev type_at : List DataType → ℕ → DataType
type_at [] k = unknown
type_at (t ∷ ts) zero = t
type_at (t ∷ ts) (suc k) = type_at ts k

place_below : (ns : List Name) (m : Name) → is_in ns m ≡ true → place_in ns m < length ns
place_below [] m e = cc
place_below (n ∷ ns) m e = step (same_name n m) e (place_below ns m)
  where
    step : (b : Truth) → (b || is_in ns m) ≡ true → (is_in ns m ≡ true → place_in ns m < length ns)
        → (if b then 0 else suc (place_in ns m)) < suc (length ns)
    step true f g = omega arith
    step false f g = omega (arith, g f)

place_name : (ns : List Name) (m : Name) → is_in ns m ≡ true → name_at ns (place_in ns m) ≡ m
place_name [] m e = cc
place_name (n ∷ ns) m e = step (same_name n m) refl e (place_name ns m)
  where
    step : (b : Truth) → same_name n m ≡ b → (b || is_in ns m) ≡ true
        → (is_in ns m ≡ true → name_at ns (place_in ns m) ≡ m)
        → name_at (n ∷ ns) (if b then 0 else suc (place_in ns m)) ≡ m
    step true h f g = same_name_is n m h
    step false h f g = g f

places_differ : (ns : List Name) (m k : Name) → is_in ns m ≡ true → is_in ns k ≡ true
    → same_name m k ≡ false → (place_in ns m == place_in ns k) ≡ false
places_differ ns m k e f d = step (place_in ns m == place_in ns k) refl
  where
    step : (b : Truth) → (place_in ns m == place_in ns k) ≡ b → b ≡ false
    step true h =
        let equal : m ≡ k = sym (place_name ns m e) ∙ ap (name_at ns) (eq_is _ _ h) ∙ place_name ns
        k f in
        sym (name_of m k equal) ∙ d
    step false h = refl

-- the test of names, the other way round
other_way : (m : Name) (ms : List Name) → is_among m ms ≡ false → list_any (same_name m) ms ≡ false
other_way m [] e = refl
other_way m (k ∷ ms) e =
    rw (same_name-flips k m (or_parts _ _ e).0) (other_way m ms (or_parts (same_name k m) _ e).1)

apart_names : (ns : List Name) (m : Name) (ms : List Name) → is_in ns m ≡ true
    → list_all (is_in ns) ms ≡ true → list_any (same_name m) ms ≡ false
    → Apart (place_in ns m) (map (place_in ns) ms)
apart_names ns m [] e f d = tt
apart_names ns m (k ∷ ms) e f d =
    let here : same_name m k ≡ false = (or_parts _ _ d).0 in
    let known : is_in ns k ≡ true = (and_parts _ _ f).0 in (
      places_differ ns k m known e (same_name-flips m k here),
      places_differ ns m k e known here,
      apart_names ns m ms e (and_parts (is_in ns k) _ f).1 (or_parts (same_name m k) _ d).1,
    )

are_name_places : (ns ms : List Name) → list_all (is_in ns) ms ≡ true → AreDistinct ms
    → ArePlaces (length ns) (map (place_in ns) ms)
are_name_places ns [] f d = tt
are_name_places ns (m ∷ ms) f d = (
  place_below ns m (and_parts _ _ f).0,
  apart_names ns m ms (and_parts _ _ f).0
      (and_parts (is_in ns m) _ f).1 (other_way m ms d.0),
  are_name_places ns ms
      (and_parts (is_in ns m) _ f).1 d.1,
)

-- which type a name has
abbrev FieldsAre : List Name → List DataType → List Name → List DataType → Type 0
FieldsAre ms us (q ∷ qs) (t ∷ ts) = (field_type q ms us ≡ Some t) × FieldsAre ms us qs ts
FieldsAre ms us qs ts = Unit {0}

fields_more : (m : Name) (u : DataType) (ms : List Name) (us : List DataType) (qs : List Name)
    (ts : List DataType) → list_any (same_name m) qs ≡ false → FieldsAre ms us qs ts → FieldsAre
    (m ∷ ms) (u ∷ us) qs ts
fields_more m u ms us [] ts d f = tt
fields_more m u ms us (q ∷ qs) [] d f = tt
fields_more m u ms us (q ∷ qs) (t ∷ ts) d f = (
  rw (same_name-flips m q (or_parts _ _ d).0) f.0,
  fields_more m u ms us qs ts
      (or_parts (same_name m q) _ d).1 f.1,
)

fields_are : (ms : List Name) (us : List DataType) → AreDistinct ms → FieldsAre ms us ms us
fields_are [] us d = tt
fields_are (m ∷ ms) [] d = tt
fields_are (m ∷ ms) (u ∷ us) d =
    (rw (same_name-refl m), fields_more m u ms us ms us (other_way m ms d.0) (fields_are ms us d.1))

with_first : (o : Option DataType) (os : Option (List DataType)) (ps : List DataType)
    → with_type o os ≡ Some ps → o ≡ Some (type_at ps 0)
with_first (Some t) (Some ts) ps e = ap (λ x. Some (type_at x 0)) (same_Some (t ∷ ts) ps e)
with_first (Some t) None ps e = cc
with_first None os ps e = cc

with_rest : (o : Option DataType) (os : Option (List DataType)) (ps : List DataType)
    → with_type o os ≡ Some ps
    → (qs : List DataType) × (os ≡ Some qs) × ((k : ℕ) → type_at ps (suc k) ≡ type_at qs k)
with_rest (Some t) (Some ts) ps e =
    (ts, refl, λ k. ap (λ x. type_at x (suc k)) (sym (same_Some (t ∷ ts) ps e)))
with_rest (Some t) None ps e = cc
with_rest None os ps e = cc

picked_step : (b : Truth) (n : Name) (ns ms : List Name) (us ps : List DataType) (m : Name)
    → same_name n m ≡ b → picked (n ∷ ns) ms us ≡ Some ps → (b || is_in ns m) ≡ true →
    ((qs : List DataType) → picked ns ms us ≡ Some qs → is_in ns m ≡ true → field_type m ms us ≡
    Some (type_at qs (place_in ns m))) → field_type m ms us ≡ Some
    (type_at ps (if b then 0 else suc (place_in ns m)))
picked_step true n ns ms us ps m h e f g =
    subst (λ k. field_type k ms us ≡ Some (type_at ps 0)) (same_name_is n m h)
    (with_first (field_type n ms us) (picked ns ms us) ps e)
picked_step false n ns ms us ps m h e f g =
    let r : (qs : List DataType) × (picked ns ms us ≡ Some qs) ×
    ((k : ℕ) → type_at ps (suc k) ≡ type_at qs k) =
    with_rest (field_type n ms us) (picked ns ms us) ps e in
    g r.0 r.1 f ∙ ap Some (sym (r.2 (place_in ns m)))

picked_at : (ns ms : List Name) (us ps : List DataType) (m : Name) → picked ns ms us ≡ Some ps
    → is_in ns m ≡ true → field_type m ms us ≡ Some (type_at ps (place_in ns m))
picked_at [] ms us ps m e f = cc
picked_at (n ∷ ns) ms us ps m e f =
    picked_step (same_name n m) n ns ms us ps m refl e f (λ qs x y. picked_at ns ms us qs m x y)

takes_at : (ps : List DataType) (fs : List Carry) (ts : List DataType) (k : ℕ) → EachCarry ps fs ts
    → k < length ts → Takes (type_at ps k) (carry_at fs k) (type_at ts k)
takes_at [] [] [] k c l = absurd (omega arith)
takes_at [] [] (t ∷ ts) k c l = absurd c
takes_at [] (f ∷ fs) ts k c l = absurd c
takes_at (p ∷ ps) [] ts k c l = absurd c
takes_at (p ∷ ps) (f ∷ fs) [] k c l = absurd c
takes_at (p ∷ ps) (f ∷ fs) (t ∷ ts) zero c l = c.0
takes_at (p ∷ ps) (f ∷ fs) (t ∷ ts) (suc k) c l = takes_at ps fs ts k c.1 (omega arith)

-- values by their places
abbrev TypedAt : List DataType → List ℕ → List Value → Type 0
TypedAt ts [] [] = Unit {0}
TypedAt ts (p ∷ ps) (x ∷ xs) = Has (type_at ts p) x × TypedAt ts ps xs
TypedAt ts ps xs = ⊥

named_each : (ns ms : List Name) (us ps ts : List DataType) (fs : List Carry)
    → picked ns ms us ≡ Some ps → EachCarry ps fs ts → length ns ≡ length ts →
    (ks : List Name) (ws : List DataType) (vs : List Value) → length ks ≡ length ws → list_all
    (is_in ns) ks ≡ true → FieldsAre ms us ks ws → HasRow (types_from ws) vs →
    FitEach (map (place_in ns) ks) (carries_from (map (λ m. carry_at fs (place_in ns m)) ks)) vs ×
    TypedAt ts (map (place_in ns) ks) (values_by
    (carried_each (carries_from (map (λ m. carry_at fs (place_in ns m)) ks))) vs)
named_each ns ms us ps ts fs e c l [] [] [] n a f h = (tt, tt)
named_each ns ms us ps ts fs e c l [] [] (v ∷ vs) n a f h = absurd h
named_each ns ms us ps ts fs e c l [] (w ∷ ws) vs n a f h = absurd (omega arith)
named_each ns ms us ps ts fs e c l (k ∷ ks) [] vs n a f h = absurd (omega arith)
named_each ns ms us ps ts fs e c l (k ∷ ks) (w ∷ ws) [] n a f h = absurd h
named_each ns ms us ps ts fs e c l (k ∷ ks) (w ∷ ws) (v ∷ vs) n a f h =
    let known : is_in ns k ≡ true = (and_parts _ _ a).0 in
    let of_type : type_at ps (place_in ns k) ≡ w = same_Some _ _
    (sym (picked_at ns ms us ps k e known) ∙ f.0) in
    let low : place_in ns k < length ts = subst (λ x. place_in ns k < x) l
    (place_below ns k known) in
    let one : Fits (carry_at fs (place_in ns k)) v × Has (type_at ts (place_in ns k))
    (carried (carry_at fs (place_in ns k)) v) =
    takes_at ps fs ts (place_in ns k) c low v (subst (λ t. Has t v) (sym of_type) h.0) in
    let rest : FitEach (map (place_in ns) ks) (carries_from
    (map (λ m. carry_at fs (place_in ns m)) ks)) vs × TypedAt ts (map (place_in ns) ks)
    (values_by (carried_each (carries_from (map (λ m. carry_at fs (place_in ns m)) ks))) vs) =
    named_each ns ms us ps ts fs e c l ks ws vs (omega arith) (and_parts (is_in ns k) _ a).1 f.1
    h.1 in
    ((one.0, rest.0), (one.1, rest.1))

-- each place is taken

abbrev taken : ℕ → List ℕ → Truth
taken j ps = list_any (λ p. p == j) ps

at_typed : (ts : List DataType) (j : ℕ) (ps : List ℕ) (xs : List Value) → TypedAt ts ps xs
    → taken j ps ≡ true → Has (type_at ts j) (at_place j ps xs)
at_typed ts j [] [] c e = cc
at_typed ts j [] (x ∷ xs) c e = absurd c
at_typed ts j (p ∷ ps) [] c e = absurd c
at_typed ts j (p ∷ ps) (x ∷ xs) c e = typed_step (p == j) refl e c.0 (at_typed ts j ps xs c.1)
  where
    typed_step : (b : Truth) → (p == j) ≡ b → (b || taken j ps) ≡ true → Has (type_at ts p) x
        → (taken j ps ≡ true → Has (type_at ts j) (at_place j ps xs))
        → Has (type_at ts j) (if b then x else at_place j ps xs)
    typed_step true h f k g = subst (λ n. Has (type_at ts n) x) (eq_is p j h) k
    typed_step false h f k g = g f

name_place : (ns : List Name) (j : ℕ) → AreDistinct ns → j < length ns
    → place_in ns (name_at ns j) ≡ j
name_place [] j d l = absurd (omega arith)
name_place (n ∷ ns) zero d l = rw (same_name-refl n)
name_place (n ∷ ns) (suc j) d l =
    rw (differs n ns j (other_way n ns d.0) (omega arith))
    (ap suc (name_place ns j d.1 (omega arith)))
  where
    differs : (n : Name) (ns : List Name) (j : ℕ) → list_any (same_name n) ns ≡ false
        → j < length ns → same_name n (name_at ns j) ≡ false
    differs n [] j e l = absurd (omega arith)
    differs n (k ∷ ns) zero e l = (or_parts _ _ e).0
    differs n (k ∷ ns) (suc j) e l = differs n ns j (or_parts (same_name n k) _ e).1 (omega arith)

found_name : (n : Name) (ms : List Name) (us : List DataType) (t : DataType)
    → field_type n ms us ≡ Some t → list_any (same_name n) ms ≡ true
found_name n [] us t e = cc
found_name n (m ∷ ms) [] t e = cc
found_name n (m ∷ ms) (u ∷ us) t e = step (same_name n m) e (found_name n ms us t)
  where
    step : (b : Truth) → (if b then Some u else field_type n ms us) ≡ Some t
        → (field_type n ms us ≡ Some t → list_any (same_name n) ms ≡ true)
        → (b || list_any (same_name n) ms) ≡ true
    step true f g = refl
    step false f g = g f

name_in : (ns : List Name) (j : ℕ) → j < length ns → is_in ns (name_at ns j) ≡ true
name_in [] j l = absurd (omega arith)
name_in (n ∷ ns) zero l = rw (same_name-refl n)
name_in (n ∷ ns) (suc j) l =
    or_right (same_name n (name_at ns j)) (is_in ns (name_at ns j)) (name_in ns j (omega arith))
  where
    or_right : (a b : Truth) → b ≡ true → (a || b) ≡ true
    or_right true b e = refl
    or_right false b e = e

taken_name : (ns ms : List Name) (n : Name) (j : ℕ) → place_in ns n ≡ j
    → list_any (same_name n) ms ≡ true → taken j (map (place_in ns) ms) ≡ true
taken_name ns [] n j e f = cc
taken_name ns (m ∷ ms) n j e f = step (same_name n m) refl f (taken_name ns ms n j e)
  where
    or_right : (a b : Truth) → b ≡ true → (a || b) ≡ true
    or_right true b e = refl
    or_right false b e = e

    step : (b : Truth) → same_name n m ≡ b → (b || list_any (same_name n) ms) ≡ true
        → (list_any (same_name n) ms ≡ true → taken j (map (place_in ns) ms) ≡ true)
        → ((place_in ns m == j) || taken j (map (place_in ns) ms)) ≡ true
    step true h k g =
        let here : place_in ns m ≡ j = sym (ap (place_in ns) (same_name_is n m h)) ∙ e in
        let equal : (place_in ns m == j) ≡ true = grind arith in
        rw equal
    step false h k g = or_right (place_in ns m == j) (taken j (map (place_in ns) ms)) (g k)

row_of : (ts : List DataType) (h : ℕ → Value) (i : ℕ)
    → ((j : ℕ) → j < length ts → Has (type_at ts j) (h (i + j)))
    → HasRow (types_from ts) (map h (places_from i (length ts)))
row_of [] h i f = tt
row_of (t ∷ ts) h i f = (
  subst (λ k. Has t (h k)) (plus_zero i) (f 0 (omega arith)),
  row_of ts h (suc i)
      (λ j l. subst (λ k. Has (type_at ts j) (h k)) (plus_suc i j) (f (suc j) (omega arith))),
)
  where
    plus_zero : (i : ℕ) → i + 0 ≡ i
    plus_zero i = omega arith

    plus_suc : (i j : ℕ) → i + suc j ≡ suc i + j
    plus_suc i j = omega arith

at_zero : (ts : List DataType) (j : ℕ) (qs : List ℕ) (xs : List Value)
    → Has (type_at ts j) (at_place j qs xs) → Has (type_at ts j) (at_place (0 + j) qs xs)
at_zero ts j qs xs h = subst (λ k. Has (type_at ts j) (at_place k qs xs)) (omega_zero j) h
  where
    omega_zero : (j : ℕ) → j ≡ 0 + j
    omega_zero j = omega arith

names_carry : (ns ms : List Name) (us ps ts : List DataType) (fs : List Carry) → AreDistinct ns
    → AreDistinct ms → alike ns ms ≡ true → length ms ≡ length us → length ns ≡ length ts
    → picked ns ms us ≡ Some ps → EachCarry ps fs ts →
    Takes (tup (types_from us)) (to_names ns ms fs) (tup (types_from ts))
names_carry ns ms us ps ts fs dn dm a lu lt e c (row vs) h =
    let all_in : list_all (is_in ns) ms ≡ true = (and_parts (length ns == length ms) _ a).1 in
    let long : length ns ≡ length ms = eq_is _ _ (and_parts (length ns == length ms) _ a).0 in
    let qs : List ℕ = map (place_in ns) ms in
    let many : length qs ≡ length ts = length-map ms (place_in ns) ∙ sym long ∙ lt in
    let each : FitEach qs (carries_from (map (λ m. carry_at fs (place_in ns m)) ms)) (value_list vs)
    × TypedAt ts qs (values_by (carried_each
    (carries_from (map (λ m. carry_at fs (place_in ns m)) ms))) (value_list vs)) = named_each ns
    ms us ps ts fs e c lt ms us (value_list vs) lu all_in (fields_are ms us dm) h in
    let xs : List Value = values_by (carried_each
    (carries_from (map (λ m. carry_at fs (place_in ns m)) ms))) (value_list vs) in
    let at : (j : ℕ) → j < length ts → Has (type_at ts j) (at_place (0 + j) qs xs) = λ j l.
    at_zero ts j qs xs (at_typed ts j qs xs each.1
    (taken_name ns ms (name_at ns j) j (name_place ns j dn (omega arith))
    (found_name (name_at ns j) ms us _ (picked_at ns ms us ps (name_at ns j) e
    (name_in ns j (omega arith)))))) in (
      (subst (λ n. ArePlaces n qs) (lt ∙ sym many) (are_name_places ns ms all_in dm), each.0),
      subst (HasRow (types_from ts)) (sym (value_list-from (in_order qs xs)))
          (subst (λ n. HasRow (types_from ts) (map (λ j. at_place j qs xs) (places n))) (sym many)
          (row_of ts (λ j. at_place j qs xs) 0 at)),
    )
names_carry ns ms us ps ts fs dn dm a lu lt e c v h = absurd h

pub picked_length : (ns ms : List Name) (us ps : List DataType) → picked ns ms us ≡ Some ps
    → length ps ≡ length ns
picked_length [] ms us ps e = ap length (same_Some ps [] (sym e))
picked_length (n ∷ ns) ms us ps e =
    with_length (field_type n ms us) (picked ns ms us) ps e (picked_length ns ms us)
  where
    with_length : (o : Option DataType) (os : Option (List DataType)) (ps : List DataType)
        → with_type o os ≡ Some ps → ((qs : List DataType) → os ≡ Some qs → length qs ≡ length ns)
        → length ps ≡ suc (length ns)
    with_length (Some t) (Some ts) ps e f =
        ap length (sym (same_Some (t ∷ ts) ps e)) ∙ ap suc (f ts refl)
    with_length (Some t) None ps e f = cc
    with_length None os ps e f = cc

each_length : (firsts ts : List DataType) (fs : List Carry) → EachCarry firsts fs ts
    → length firsts ≡ length ts
each_length [] [] [] c = refl
each_length [] (t ∷ ts) [] c = absurd c
each_length [] ts (f ∷ fs) c = absurd c
each_length (a ∷ firsts) ts [] c = absurd c
each_length (a ∷ firsts) [] (f ∷ fs) c = absurd c
each_length (a ∷ firsts) (t ∷ ts) (f ∷ fs) c = ap suc (each_length firsts ts fs c.1)

of_record : (ms : List Name) (us : DataTypes) (f : Carry) (zs : DataTypes)
    → Takes (tup us) f (tup zs) → (ns : List Name) → Takes (rec ms us) f (rec ns zs)
of_record ms us f zs c ns v h =
    ((c v (rec_tup ms us v h)).0, tup_rec ns zs (carried f v) (c v (rec_tup ms us v h)).1)

rec_some : (n : ℕ) (u : Unifying) → Good n u
    → (ns ms : List Name) (ts us : DataTypes) (o : Option (List DataType))
    → picked ns ms (type_list us) ≡ o → alike ns ms ≡ true → greatest (depths us) ≤ n →
    IsType (rec ns ts) → IsType (rec ms us) → AreSimple ts → AreSimple us → IfAllFine n o → IfFields
    (length ns) o → IfJoins (rec ns ts) (rec ms us) (rec_join u ns ms (type_list ts) o)
rec_some n u g ns ms ts us None e a d s t x y k l = tt
rec_some n u g ns ms ts us (Some ps) e a d s t x y k l =
    let r : PartsCarry (type_list ts) ps (unify_parts u (type_list ts) ps) = parts_carry n u g
    (type_list ts) ps (sym s.1 ∙ sym l.0) k.0 (type_list_are_types ts s.2) l.1 (as_list ts x)
    k.1 in
    let size : length ns ≡ length (unify_parts u (type_list ts) ps).typs = sym l.0 ∙ each_length ps
    _ _ r.each_right in
    record {
      to_left =
          of_record ns ts (in_own (unify_parts u (type_list ts) ps).lefts)
          (types_from (unify_parts u (type_list ts) ps).typs)
          (λ v h. own_carry _ _ _ r.each_left v (of_list ts v h)) ns;
      to_right =
          of_record ms us (to_names ns ms (unify_parts u (type_list ts) ps).rights)
          (types_from (unify_parts u (type_list ts) ps).typs)
          (λ v h. names_carry ns ms (type_list us) ps _ _ s.0 t.0 a t.1 size e r.each_right v
          (of_list us v h)) ns;
      in_place = own_in_place _ r.all_in_place;
    }

pub rec_carries : (b : Truth) (n : ℕ) (u : Unifying) → Good n u
    → (ns ms : List Name) (ts us : DataTypes) → alike ns ms ≡ b → greatest (depths us) ≤ n
    → IsType (rec ns ts) → IsType (rec ms us) → AreSimple ts → AreSimple us →
    IfJoins (rec ns ts) (rec ms us) (if b then rec_join u ns ms (type_list ts)
    (picked ns ms (type_list us)) else None)
rec_carries true n u g ns ms ts us a d s t x y =
    rec_some n u g ns ms ts us (picked ns ms (type_list us)) refl a d s t x y
    (picked_fine n ns ms (type_list us) (omega (arith, deepest_list us)) (as_list us y))
    (picked_ok ns ms (type_list us) (type_list_are_types us t.2))
rec_carries false n u g ns ms ts us a d s t x y = tt
