-- What a function that gives single values gives in the places of the lists at an axis.
use Rattle.std.specs.Prelude.{◌≡◌, ℕ, zero, suc, ◌-◌, ◌==◌, ℤ, pos, negsuc, Bool, true, false, List}
use Rattle.std.specs.Prelude.{[], ◌∷◌, ◌++◌, map, None, Some, Ok, refl, if◌then◌else◌}
use Rattle.std.specs.List.{AllByRecursion, flat_map}
use Rattle.std.proofs.Common.{ap, ap₂, sym, ◌∙◌}
use Rattle.std.proofs.lemmas.List.{map-append}
use Rattle.std.proofs.lemmas.Simd.{map-map}
use Rattle.awk_types.specs.DataType.{DataType, DataTypes, unknown, leaf, var, reg, rec, tup, opt}
use Rattle.awk_types.specs.DataType.{uni, no_types, type, types_from}
use Rattle.awk_types.specs.Datum.{Datum, arr, one, datum_type}
use Rattle.awk_types.specs.Has.{Has, HasRow, HasAlternative}
use Rattle.awk_types.specs.Limit.{limit}
use Rattle.awk_types.specs.Settle.{settle}
use Rattle.awk_types.specs.Simple.{IsSimple, AreSimple, ArePlain, is_option, is_union, simple}
use Rattle.awk_types.specs.Simple.{in_option, simple_value, simple_values, simples, in_list}
use Rattle.awk_types.specs.Simple.{values_by, value_by, value_after, alternatives_before}
use Rattle.awk_types.specs.Value.{Value, Values, int, truth, null, list, row, alt, value_list}
use Rattle.awk_types.specs.Value.{values_from}
use Rattle.awk_types.proofs.RefusalLaws.{refused_or-Ok}
use Rattle.awk_types.proofs.Trees.{value_list-from}
use Rattle.awk_list_functions.specs.Lift.{lifted_type, lifted_types, lifted_value, lifted_values}
use Rattle.awk_list_functions.specs.Lift.{refusal_at}
use Rattle.awk_types.proofs.NullLaws.{in_option-simple}
use Rattle.awk_list_functions.specs.Lifting.{first_told, lift, on_one, on_whole}
use Rattle.awk_list_functions.specs.ListFunction.{Giving, ListFunction, singles, made_type}
use Rattle.awk_list_functions.specs.ListFunction.{given_type}
use Rattle.awk_list_functions.specs.ListFunction.{given_value}
use Rattle.awk_list_functions.specs.Spoils.{spoil_at}
use Rattle.awk_list_functions.specs.declared.place.Reach.TheVariants.{Axis}
use Rattle.awk_columns.specs.Columns.{list_items}
use Rattle.awk_columns.specs.ListClass.{Class, list_type}
use Rattle.awk_columns.proofs.ListNodes.{simple_value-list}
use Rattle.awk_pair_operands.specs.Typed.{IsTyped}
use Rattle.awk_laws.specs.Axes.{TypedList, typed_list, lists_at, lists_in_parts, lists_of}
use Rattle.awk_laws.specs.Axes.{lists_in_alternative, alternative_of}
use Rattle.awk_laws.specs.InPlace.{datum_value, side_by_side, value_in_place, parts_in_place}
use Rattle.awk_laws.specs.InPlace.{alternative_in_place, in_place}
use Rattle.awk_laws.proofs.AtAxes.{lifted_item, given-items}

-- ---- lists parted

all_first : (Q : TypedList → Type 0) (ls ms : List TypedList) → AllByRecursion Q (ls ++ ms)
    → AllByRecursion Q ls
all_first Q [] ms h = tt
all_first Q (l ∷ ls) ms h = (h.0, all_first Q ls ms h.1)

all_rest : (Q : TypedList → Type 0) (ls ms : List TypedList) → AllByRecursion Q (ls ++ ms)
    → AllByRecursion Q ms
all_rest Q [] ms h = h
all_rest Q (l ∷ ls) ms h = all_rest Q ls ms h.1

-- the items of a list, by one function after another
items_both : (f g : Value → Value) (us : Values)
    → list_items (in_list g (in_list f (list us))) ≡ map (λ x. g (f x)) (value_list us)
items_both f g us =
    value_list-from (map g (value_list (values_from (map f (value_list us)))))
    ∙ ap (map g) (value_list-from (map f (value_list us))) ∙ map-map g f (value_list us)

abbrev whole_at : Giving → DataType → List Value → Datum
whole_at g t vs =
    settle (simple (given_type g None t)) (simple_value (given_type g None t)
    (given_value g t vs))

-- a test of what is given for a list of simple items, alone or as an alternative of a union, that a
-- test of the list tells
module _ (tf : DataType → DataType) (vf : DataType → List Value → Value) (p q : Value → Bool)
    (R : TypedList → Type 0)
    (alone : (t : DataType) (us : Values) → IsSimple t → R (t, value_list us)
    → AllByRecursion (Has t) (value_list us)
    → p (simple_value (tf t) (vf t (value_list us))) ≡ q (list us))
    (among : (b : ℕ) (t : DataType) (us : Values) → IsSimple t → R (t, value_list us)
    → AllByRecursion (Has t) (value_list us)
    → p (alternative_of (value_after b (simple_value (tf t) (vf t (value_list us)))))
    ≡ q (list us))
    (absent : p null ≡ q null) where
  abbrev g : Giving
  g = singles tf vf

  sides : (t : DataType) (f : Value → Value → List Value) (ls : Value → List TypedList)
      (h : Value → Value) (vs : List Value)
      → ((x : Value) → Has t x → AllByRecursion R (ls x) → map p (f x (h x)) ≡ map q (f x x))
      → AllByRecursion (Has t) vs → AllByRecursion R (flat_map ls vs)
      → map p (side_by_side f vs (map h vs)) ≡ map q (side_by_side f vs vs)
  sides t f ls h [] e k r = refl
  sides t f ls h (v ∷ vs) e k r =
      map-append p (f v (h v)) (side_by_side f vs (map h vs))
      ∙ ap₂ (λ x y. x ++ y) (e v k.0 (all_first R (ls v) (flat_map ls vs) r))
      (sides t f ls h vs e k.1 (all_rest R (ls v) (flat_map ls vs) r))
      ∙ sym (map-append q (f v v) (side_by_side f vs vs))

  -- what is given for a list, at the axis or above it, within what leaves lists as they are
  abbrev given_if : Bool → Class → DataType → DataType → (Value → Value) → Values → Value
  given_if b c t u h us =
      simple_value (if b then tf t else list_type c u)
      (if b then vf t (value_list us) else in_list h (list us))

  by_axis : (b : Bool) (c : Class) (t u : DataType) (f : Value → Value → List Value)
      (ls : Value → List TypedList) (h wrap : Value → Value) (us : Values)
      → ((xs : Values) → wrap (list xs) ≡ list xs)
      → (R (t, value_list us)
      → p (wrap (simple_value (tf t) (vf t (value_list us)))) ≡ q (list us))
      → ((x : Value) → Has t x → AllByRecursion R (ls x)
      → map p (f x (simple_value u (h x))) ≡ map q (f x x))
      → AllByRecursion (Has t) (value_list us)
      → AllByRecursion R (if b then typed_list t (list us) else flat_map ls (value_list us))
      → map p (if b then wrap (given_if b c t u h us) ∷ []
      else side_by_side f (value_list us) (list_items (wrap (given_if b c t u h us))))
      ≡ map q (if b then list us ∷ [] else side_by_side f (value_list us) (value_list us))
  by_axis true c t u f ls h wrap us fixed kept e k r = ap (λ x. x ∷ []) (kept r.0)
  by_axis false c t u f ls h wrap us fixed kept e k r =
      let xs = values_from (map (simple_value u) (value_list (values_from (map h
      (value_list us))))) in
      ap (λ w. map p (side_by_side f (value_list us) (list_items w)))
      (ap wrap (simple_value-list c u (in_list h (list us))) ∙ fixed xs)
      ∙ ap (λ ws. map p (side_by_side f (value_list us) ws)) (items_both h (simple_value u) us)
      ∙ sides t f ls (λ x. simple_value u (h x)) (value_list us) e k r

  -- ---- nulls

  null_if : (b : Bool)
      → map p (if b then null ∷ [] else []) ≡ map q (if b then null ∷ [] else [])
  null_if true = ap (λ x. x ∷ []) absent
  null_if false = refl

  null_parts : (a : ℕ) (ts : DataTypes)
      → map p (parts_in_place a ts [] []) ≡ map q (parts_in_place a ts [] [])
  null_parts a no_types = refl
  null_parts a (type t ts) = refl

  null_at : (a : ℕ) (t : DataType)
      → map p (value_in_place a t null null) ≡ map q (value_in_place a t null null)
  null_at a unknown = refl
  null_at a (leaf x) = refl
  null_at a (var t) = null_if (a == 0)
  null_at a (reg n t) = null_if (a == 0)
  null_at a (rec ns ts) = null_parts a ts
  null_at a (tup ts) = null_parts a ts
  null_at a (opt t) = null_at a t
  null_at a (uni ts) = refl

  -- ---- values of a type

  abbrev in_parts : ℕ → DataTypes → List Value → List Value
  in_parts a ts vs =
      values_by (simple_values (types_from (lifted_types g (Axis a) ts)))
      (values_by (lifted_values g (Axis a) ts) vs)

  abbrev AreTold : ℕ → DataType → Value → Value → Type 0
  AreTold a t v w = map p (value_in_place a t v w) ≡ map q (value_in_place a t v v)

  row_told : (a : ℕ) (ts : DataTypes) (us : Values)
      → map p (parts_in_place a ts (value_list us) (in_parts a ts (value_list us)))
      ≡ map q (parts_in_place a ts (value_list us) (value_list us))
      → map p (parts_in_place a ts (value_list us) (value_list (values_from (values_by
      (simple_values (types_from (lifted_types g (Axis a) ts)))
      (value_list (values_from (values_by (lifted_values g (Axis a) ts) (value_list us))))))))
      ≡ map q (parts_in_place a ts (value_list us) (value_list us))
  row_told a ts us e =
      let ss = simple_values (types_from (lifted_types g (Axis a) ts)) in
      let ws = values_by (lifted_values g (Axis a) ts) (value_list us) in
      ap (λ xs. map p (parts_in_place a ts (value_list us) xs))
      (value_list-from (values_by ss (value_list (values_from ws)))
      ∙ ap (values_by ss) (value_list-from ws)) ∙ e

  -- an optional value that is there
  there : (a : ℕ) (t : DataType) (v : Value) → AreTold a t v (lifted_item g a t v)
      → map p (value_in_place a t v (in_option (simple_value (lifted_type g (Axis a) t))
      (lifted_value g (Axis a) t v)))
      ≡ map q (value_in_place a t v v)
  there a t v e =
      ap (λ w. map p (value_in_place a t v w))
      (in_option-simple (lifted_type g (Axis a) t) (lifted_value g (Axis a) t v)) ∙ e

  mutual
    told_at : (a : ℕ) (t : DataType) (v : Value) → IsSimple t → Has t v
        → AllByRecursion R (lists_at a t v) → AreTold a t v (lifted_item g a t v)
    told_at a unknown v s h r = absurd h
    told_at a (leaf x) v s h r = refl
    told_at a (var t) (list us) s h r =
        by_axis (a == 0) None t (lifted_type g (Axis (a - 1)) t) (value_in_place (a - 1) t)
        (lists_at (a - 1) t) (lifted_value g (Axis (a - 1)) t) (λ x. x) us (λ xs. refl)
        (λ i. alone t us s i h) (λ x k i. told_at (a - 1) t x s k i) h r
    told_at a (var t) (int z) s h r = absurd h
    told_at a (var t) (truth b) s h r = absurd h
    told_at a (var t) null s h r = absurd h
    told_at a (var t) (row vs) s h r = absurd h
    told_at a (var t) (alt j v) s h r = absurd h
    told_at a (reg n t) (list us) s h r =
        by_axis (a == 0) (Some n) t (lifted_type g (Axis (a - 1)) t) (value_in_place (a - 1) t)
        (lists_at (a - 1) t) (lifted_value g (Axis (a - 1)) t) (λ x. x) us (λ xs. refl)
        (λ i. alone t us s i h.1) (λ x k i. told_at (a - 1) t x s k i) h.1 r
    told_at a (reg n t) (int z) s h r = absurd h
    told_at a (reg n t) (truth b) s h r = absurd h
    told_at a (reg n t) null s h r = absurd h
    told_at a (reg n t) (row vs) s h r = absurd h
    told_at a (reg n t) (alt j v) s h r = absurd h
    told_at a (rec ns ts) (row us) s h r =
        row_told a ts us (told_parts a ts (value_list us) s h r)
    told_at a (rec ns ts) (int z) s h r = absurd h
    told_at a (rec ns ts) (truth b) s h r = absurd h
    told_at a (rec ns ts) null s h r = absurd h
    told_at a (rec ns ts) (list vs) s h r = absurd h
    told_at a (rec ns ts) (alt j v) s h r = absurd h
    told_at a (tup ts) (row us) s h r =
        row_told a ts us (told_parts a ts (value_list us) s h r)
    told_at a (tup ts) (int z) s h r = absurd h
    told_at a (tup ts) (truth b) s h r = absurd h
    told_at a (tup ts) null s h r = absurd h
    told_at a (tup ts) (list vs) s h r = absurd h
    told_at a (tup ts) (alt j v) s h r = absurd h
    told_at a (opt t) null s h r = null_at a t
    told_at a (opt t) (int z) s h r = there a t (int z) (told_at a t (int z) s.1 h r)
    told_at a (opt t) (truth b) s h r = there a t (truth b) (told_at a t (truth b) s.1 h r)
    told_at a (opt t) (list vs) s h r = there a t (list vs) (told_at a t (list vs) s.1 h r)
    told_at a (opt t) (row vs) s h r = there a t (row vs) (told_at a t (row vs) s.1 h r)
    told_at a (opt t) (alt j v) s h r = there a t (alt j v) (told_at a t (alt j v) s.1 h r)
    told_at a (uni ts) (alt j v) s h r =
        told_alternative a
        (alternatives_before (simples (types_from (lifted_types g (Axis a) ts))) j) ts j v s h r
    told_at a (uni ts) (int z) s h r = absurd h
    told_at a (uni ts) (truth b) s h r = absurd h
    told_at a (uni ts) null s h r = absurd h
    told_at a (uni ts) (list vs) s h r = absurd h
    told_at a (uni ts) (row vs) s h r = absurd h

    told_parts : (a : ℕ) (ts : DataTypes) (vs : List Value) → AreSimple ts → HasRow ts vs
        → AllByRecursion R (lists_in_parts a ts vs)
        → map p (parts_in_place a ts vs (in_parts a ts vs)) ≡ map q (parts_in_place a ts vs vs)
    told_parts a no_types vs s h r = refl
    told_parts a (type t ts) [] s h r = absurd h
    told_parts a (type t ts) (v ∷ vs) s h r =
        let ls = lists_at a t v in
        let ms = lists_in_parts a ts vs in
        map-append p (value_in_place a t v (lifted_item g a t v))
        (parts_in_place a ts vs (in_parts a ts vs))
        ∙ ap₂ (λ x y. x ++ y) (told_at a t v s.0 h.0 (all_first R ls ms r))
        (told_parts a ts vs s.1 h.1 (all_rest R ls ms r))
        ∙ sym (map-append q (value_in_place a t v v) (parts_in_place a ts vs vs))

    -- an alternative before which b others are given
    told_alternative : (a b : ℕ) (ts : DataTypes) (j : ℕ) (v : Value) → ArePlain ts
        → HasAlternative ts j v → AllByRecursion R (lists_in_alternative a ts j v)
        → map p (alternative_in_place a ts j v (alternative_of (value_after b (value_by
        (simple_values (types_from (lifted_types g (Axis a) ts))) j
        (value_by (lifted_values g (Axis a) ts) j v)))))
        ≡ map q (alternative_in_place a ts j v v)
    told_alternative a b no_types j v s h r = absurd h
    told_alternative a b (type t ts) zero v s h r = told_plain a b t v s.0 s.1 s.2 h r
    told_alternative a b (type t ts) (suc j) v s h r = told_alternative a b ts j v s.3 h r

    told_plain : (a b : ℕ) (t : DataType) (v : Value) → is_option t ≡ false
        → is_union t ≡ false → IsSimple t → Has t v → AllByRecursion R (lists_at a t v)
        → AreTold a t v (alternative_of (value_after b (lifted_item g a t v)))
    told_plain a b unknown v e i s h r = absurd h
    told_plain a b (leaf x) v e i s h r = refl
    told_plain a b (var t) (list us) e i s h r =
        by_axis (a == 0) None t (lifted_type g (Axis (a - 1)) t) (value_in_place (a - 1) t)
        (lists_at (a - 1) t) (lifted_value g (Axis (a - 1)) t)
        (λ x. alternative_of (value_after b x)) us (λ xs. refl)
        (λ k. among b t us s k h) (λ x k l. told_at (a - 1) t x s k l) h r
    told_plain a b (var t) (int z) e i s h r = absurd h
    told_plain a b (var t) (truth c) e i s h r = absurd h
    told_plain a b (var t) null e i s h r = absurd h
    told_plain a b (var t) (row vs) e i s h r = absurd h
    told_plain a b (var t) (alt j v) e i s h r = absurd h
    told_plain a b (reg n t) (list us) e i s h r =
        by_axis (a == 0) (Some n) t (lifted_type g (Axis (a - 1)) t) (value_in_place (a - 1) t)
        (lists_at (a - 1) t) (lifted_value g (Axis (a - 1)) t)
        (λ x. alternative_of (value_after b x)) us (λ xs. refl)
        (λ k. among b t us s k h.1) (λ x k l. told_at (a - 1) t x s k l) h.1 r
    told_plain a b (reg n t) (int z) e i s h r = absurd h
    told_plain a b (reg n t) (truth c) e i s h r = absurd h
    told_plain a b (reg n t) null e i s h r = absurd h
    told_plain a b (reg n t) (row vs) e i s h r = absurd h
    told_plain a b (reg n t) (alt j v) e i s h r = absurd h
    told_plain a b (rec ns ts) (row us) e i s h r =
        row_told a ts us (told_parts a ts (value_list us) s h r)
    told_plain a b (rec ns ts) (int z) e i s h r = absurd h
    told_plain a b (rec ns ts) (truth c) e i s h r = absurd h
    told_plain a b (rec ns ts) null e i s h r = absurd h
    told_plain a b (rec ns ts) (list vs) e i s h r = absurd h
    told_plain a b (rec ns ts) (alt j v) e i s h r = absurd h
    told_plain a b (tup ts) (row us) e i s h r =
        row_told a ts us (told_parts a ts (value_list us) s h r)
    told_plain a b (tup ts) (int z) e i s h r = absurd h
    told_plain a b (tup ts) (truth c) e i s h r = absurd h
    told_plain a b (tup ts) null e i s h r = absurd h
    told_plain a b (tup ts) (list vs) e i s h r = absurd h
    told_plain a b (tup ts) (alt j v) e i s h r = absurd h
    told_plain a b (opt t) v e i s h r = cc
    told_plain a b (uni ts) v e i s h r = cc

  -- ---- a datum

  module _ (f : ListFunction) (is : f.giving ≡ g)
      (whole : (t : DataType) (vs : List Value) → IsSimple t → R (t, vs)
      → AllByRecursion (Has t) vs
      → p (datum_value (whole_at g t vs)) ≡ q (list (values_from vs))) where
    abbrev one_at : Giving → ℕ → DataType → Value → Datum
    one_at y a t v = one (simple (lifted_type y (Axis a) t)) (lifted_item y a t v)

    whole_told : (t : DataType) (vs : List Value) (e : Datum) → IsSimple t → R (t, vs)
        → AllByRecursion (Has t) vs → on_whole f t vs ≡ Ok e
        → p (datum_value e) ≡ q (list (values_from vs))
    whole_told t vs e s r h k =
        let x = refused_or-Ok (first_told (f.refusal t)
        (limit (simple (made_type f.giving t))) (f.spoil t (vs ∷ []))) (whole_at f.giving t vs) e k
        in
        ap (λ d. p (datum_value d)) (sym x.1 ∙ ap (λ y. whole_at y t vs) is) ∙ whole t vs s r h

    items_told : (a : ℕ) (t : DataType) (vs : List Value) (e : Datum) → IsSimple t
        → AllByRecursion (Has t) vs → AllByRecursion R (flat_map (lists_at a t) vs)
        → lift f (pos (suc a)) (arr t vs) ≡ Ok e
        → map p (side_by_side (value_in_place a t) vs (list_items (datum_value e)))
        ≡ map q (side_by_side (value_in_place a t) vs (value_list (values_from vs)))
    items_told a t vs e s h r k =
        let ws = map (λ v. lifted_item g a t v) vs in
        ap (λ d. map p (side_by_side (value_in_place a t) vs (list_items (datum_value d))))
        (given-items f a t vs e k
        ∙ ap (λ y. arr (simple (lifted_type y (Axis a) t)) (map (λ v. lifted_item y a t v) vs)) is)
        ∙ ap (λ xs. map p (side_by_side (value_in_place a t) vs xs)) (value_list-from ws)
        ∙ sides t (value_in_place a t) (lists_at a t) (λ v. lifted_item g a t v) vs
        (λ x i j. told_at a t x s i j) h r
        ∙ ap (λ xs. map q (side_by_side (value_in_place a t) vs xs)) (sym (value_list-from vs))

    one_told : (a : ℕ) (t : DataType) (v : Value) (e : Datum) → IsSimple t → Has t v
        → AllByRecursion R (lists_at a t v) → on_one f (Axis a) t v ≡ Ok e
        → AreTold a t v (datum_value e)
    one_told a t v e s h r k =
        let x = refused_or-Ok (first_told (refusal_at f (Axis a) t)
        (limit (simple (lifted_type f.giving (Axis a) t))) (spoil_at f (Axis a) t (v ∷ [])))
        (one_at f.giving a t v) e k in
        ap (λ d. map p (value_in_place a t v (datum_value d)))
        (sym x.1 ∙ ap (λ y. one_at y a t v) is) ∙ told_at a t v s h r

    pub told_in_place : (axis : ℤ) (d e : Datum) → IsSimple (datum_type d) → IsTyped d
        → AllByRecursion R (lists_of axis d) → lift f axis d ≡ Ok e
        → map p (in_place axis d e) ≡ map q (in_place axis d d)
    told_in_place (negsuc a) d e s h r k = cc
    told_in_place (pos zero) (arr t vs) e s h r k =
        ap (λ b. b ∷ []) (whole_told t vs e s r.0 h k)
    told_in_place (pos (suc a)) (arr t vs) e s h r k = items_told a t vs e s h r k
    told_in_place (pos zero) (one t v) e s h r k = one_told zero t v e s h r k
    told_in_place (pos (suc a)) (one t v) e s h r k = one_told (suc a) t v e s h r k
