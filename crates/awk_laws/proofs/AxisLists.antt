-- What a function of one list gives for each list at an axis.
use Rattle.std.specs.Prelude.{◌≡◌, ℕ, zero, suc, ◌-◌, ◌==◌, ℤ, pos, negsuc, Bool, true, false, List}
use Rattle.std.specs.Prelude.{[], ◌∷◌, ◌++◌, length, map, Option, Some, None, option_map, Ok, refl}
use Rattle.std.specs.Prelude.{if◌then◌else◌}
use Rattle.std.specs.List.{AllByRecursion, flat_map}
use Rattle.std.proofs.Common.{ap, ap₂, sym, ◌∙◌}
use Rattle.std.proofs.lemmas.List.{map-append}
use Rattle.awk_types.specs.DataType.{DataType, DataTypes, unknown, leaf, var, reg, rec, tup, opt}
use Rattle.awk_types.specs.DataType.{uni, no_types, type, types_from}
use Rattle.awk_types.specs.Datum.{Datum, arr, one, datum_type}
use Rattle.awk_types.specs.Faults.{limit_fault}
use Rattle.awk_types.specs.Gives.{refused_or, ◌or◌}
use Rattle.awk_types.specs.Has.{Has, HasRow, HasAlternative}
use Rattle.awk_types.specs.IsType.{IsType}
use Rattle.awk_types.specs.Limit.{Limit, limit}
use Rattle.awk_types.specs.Settle.{settle}
use Rattle.awk_types.specs.Simple.{IsSimple, simple, simple_value, in_list, values_by, value_by}
use Rattle.awk_types.specs.Value.{Value, Values, int, truth, null, list, row, alt, value_list}
use Rattle.awk_types.specs.Value.{values_from}
use Rattle.awk_types.proofs.RefusalLaws.{refused_or-Ok, or-both}
use Rattle.awk_types.proofs.Trees.{value_list-from}
use Rattle.awk_list_functions.specs.Causes.{first_spoil}
use Rattle.awk_list_functions.specs.Lift.{lifted_type, lifted_types, lifted_value, lifted_values}
use Rattle.awk_list_functions.specs.Lift.{refusal_at}
use Rattle.awk_list_functions.specs.Lifting.{first_told, lift, on_items, on_one, on_whole}
use Rattle.awk_list_functions.specs.Lifting.{refusal_fault}
use Rattle.awk_list_functions.specs.Lifting.{spoil_fault}
use Rattle.awk_list_functions.specs.ListFunction.{Giving, ListFunction, lists, made_type}
use Rattle.awk_list_functions.specs.ListFunction.{given_type}
use Rattle.awk_list_functions.specs.ListFunction.{given_value}
use Rattle.awk_list_functions.specs.Spoils.{spoil_at, too_many}
use Rattle.awk_list_functions.specs.declared.causes.Refusal.{Refusal}
use Rattle.awk_list_functions.specs.declared.causes.Spoil.{Spoil}
use Rattle.awk_list_functions.specs.declared.place.Reach.TheVariants.{Axis}
use Rattle.awk_columns.specs.ListClass.{Class, list_type}
use Rattle.awk_pair_operands.specs.Typed.{IsTyped}
use Rattle.awk_laws.specs.Axes.{TypedList, typed_list, lists_at, lists_in_parts}
use Rattle.awk_laws.specs.Axes.{lists_in_alternative, lists_of}
use Rattle.awk_law_chains.proofs.Limits.{none_map}
use Rattle.awk_laws.proofs.Lifted.{normal_type, normal_value}
use Rattle.awk_laws.proofs.AxisTypes.{IsAllowed, all_joined, allowed_at, lists_at-list}
use Rattle.awk_laws.proofs.AxisTypes.{lists_at-null}

flat-typed : (P : Value → Type 0) (f h : Value → List TypedList) (g : Value → Value)
    (F : TypedList → TypedList) (vs : List Value)
    → ((x : Value) → P x → f (g x) ≡ map F (h x)) → AllByRecursion P vs
    → flat_map f (map g vs) ≡ map F (flat_map h vs)
flat-typed P f h g F [] e k = refl
flat-typed P f h g F (v ∷ vs) e k =
    ap₂ (λ xs ys. xs ++ ys) (e v k.0) (flat-typed P f h g F vs e k.1)
    ∙ sym (map-append F (h v) (flat_map h vs))

-- ---- lists that are given

module _ (cf : Class → Class) (tf : DataType → DataType)
    (vf : DataType → List Value → List Value) where
  abbrev raw : Giving
  raw = lists cf tf vf

  abbrev type_of : DataType → DataType
  type_of t = simple (tf t)

  abbrev items_of : DataType → List Value → List Value
  items_of t vs = map (simple_value (tf t)) (vf t vs)

  -- the same with simple items
  abbrev made : Giving
  made = lists cf type_of items_of

  -- what is given for a list
  abbrev pub given : TypedList → TypedList
  given l = (simple (tf l.0), map (simple_value (tf l.0)) (vf l.0 l.1))

  by_axis : (a : ℕ) (c d : Class) (b : Bool) (t : DataType) (us : Values) → (a == 0) ≡ b
      → ((x : Value) → Has t x
      → lists_at (a - 1) (lifted_type made (Axis (a - 1)) t) (lifted_value made (Axis (a - 1)) t x)
      ≡ map given (lists_at (a - 1) t x))
      → AllByRecursion (Has t) (value_list us)
      → lists_at a
      (if b then list_type c (type_of t) else list_type d (lifted_type made (Axis (a - 1)) t))
      (if b then list (values_from (items_of t (value_list us)))
      else in_list (lifted_value made (Axis (a - 1)) t) (list us))
      ≡ map given (if b then typed_list t (list us)
      else flat_map (lists_at (a - 1) t) (value_list us))
  by_axis a c d true t us e i h =
      let ys = items_of t (value_list us) in
      lists_at-list a c (type_of t) (list (values_from ys))
      ∙ ap (λ q. if q then typed_list (type_of t) (list (values_from ys))
      else flat_map (lists_at (a - 1) (type_of t)) (value_list (values_from ys))) e
      ∙ ap (λ xs. (type_of t, xs) ∷ []) (value_list-from ys)
  by_axis a c d false t us e i h =
      let u = lifted_type made (Axis (a - 1)) t in
      let ys = map (lifted_value made (Axis (a - 1)) t) (value_list us) in
      lists_at-list a d u (list (values_from ys))
      ∙ ap (λ q. if q then typed_list u (list (values_from ys))
      else flat_map (lists_at (a - 1) u) (value_list (values_from ys))) e
      ∙ ap (flat_map (lists_at (a - 1) u)) (value_list-from ys)
      ∙ flat-typed (Has t) (lists_at (a - 1) u) (lists_at (a - 1) t)
      (lifted_value made (Axis (a - 1)) t) given (value_list us) i h

  mutual
    pub lists-given : (a : ℕ) (t : DataType) (v : Value) → Has t v
        → lists_at a (lifted_type made (Axis a) t) (lifted_value made (Axis a) t v)
        ≡ map given (lists_at a t v)
    lists-given a unknown v h = absurd h
    lists-given a (leaf p) v h = refl
    lists-given a (var t) (list us) h =
        by_axis a (cf None) None (a == 0) t us refl (λ x k. lists-given (a - 1) t x k) h
    lists-given a (var t) (int z) h = absurd h
    lists-given a (var t) (truth b) h = absurd h
    lists-given a (var t) null h = absurd h
    lists-given a (var t) (row vs) h = absurd h
    lists-given a (var t) (alt j v) h = absurd h
    lists-given a (reg n t) (list us) h =
        by_axis a (cf (Some n)) (Some n) (a == 0) t us refl (λ x k. lists-given (a - 1) t x k) h.1
    lists-given a (reg n t) (int z) h = absurd h
    lists-given a (reg n t) (truth b) h = absurd h
    lists-given a (reg n t) null h = absurd h
    lists-given a (reg n t) (row vs) h = absurd h
    lists-given a (reg n t) (alt j v) h = absurd h
    lists-given a (rec ns ts) (row us) h =
        ap (lists_in_parts a (types_from (lifted_types made (Axis a) ts)))
        (value_list-from (values_by (lifted_values made (Axis a) ts) (value_list us)))
        ∙ parts-given a ts (value_list us) h
    lists-given a (rec ns ts) (int z) h = absurd h
    lists-given a (rec ns ts) (truth b) h = absurd h
    lists-given a (rec ns ts) null h = absurd h
    lists-given a (rec ns ts) (list vs) h = absurd h
    lists-given a (rec ns ts) (alt j v) h = absurd h
    lists-given a (tup ts) (row us) h =
        ap (lists_in_parts a (types_from (lifted_types made (Axis a) ts)))
        (value_list-from (values_by (lifted_values made (Axis a) ts) (value_list us)))
        ∙ parts-given a ts (value_list us) h
    lists-given a (tup ts) (int z) h = absurd h
    lists-given a (tup ts) (truth b) h = absurd h
    lists-given a (tup ts) null h = absurd h
    lists-given a (tup ts) (list vs) h = absurd h
    lists-given a (tup ts) (alt j v) h = absurd h
    lists-given a (opt t) null h =
        lists_at-null a (lifted_type made (Axis a) t) ∙ ap (map given) (sym (lists_at-null a t))
    lists-given a (opt t) (int z) h = lists-given a t (int z) h
    lists-given a (opt t) (truth b) h = lists-given a t (truth b) h
    lists-given a (opt t) (list vs) h = lists-given a t (list vs) h
    lists-given a (opt t) (row vs) h = lists-given a t (row vs) h
    lists-given a (opt t) (alt j v) h = lists-given a t (alt j v) h
    lists-given a (uni ts) (alt j v) h = alternative-given a ts j v h
    lists-given a (uni ts) (int z) h = absurd h
    lists-given a (uni ts) (truth b) h = absurd h
    lists-given a (uni ts) null h = absurd h
    lists-given a (uni ts) (list vs) h = absurd h
    lists-given a (uni ts) (row vs) h = absurd h

    parts-given : (a : ℕ) (ts : DataTypes) (vs : List Value) → HasRow ts vs
        → lists_in_parts a (types_from (lifted_types made (Axis a) ts))
        (values_by (lifted_values made (Axis a) ts) vs)
        ≡ map given (lists_in_parts a ts vs)
    parts-given a no_types vs h = refl
    parts-given a (type t ts) [] h = absurd h
    parts-given a (type t ts) (v ∷ vs) h =
        ap₂ (λ xs ys. xs ++ ys) (lists-given a t v h.0) (parts-given a ts vs h.1)
        ∙ sym (map-append given (lists_at a t v) (lists_in_parts a ts vs))

    alternative-given : (a : ℕ) (ts : DataTypes) (j : ℕ) (v : Value) → HasAlternative ts j v
        → lists_in_alternative a (types_from (lifted_types made (Axis a) ts)) j
        (value_by (lifted_values made (Axis a) ts) j v)
        ≡ map given (lists_in_alternative a ts j v)
    alternative-given a no_types j v h = absurd h
    alternative-given a (type t ts) zero v h = lists-given a t v h
    alternative-given a (type t ts) (suc j) v h = alternative-given a ts j v h

  -- ---- a datum

  item-given : (a : ℕ) (t : DataType) (v : Value) → IsSimple t → Has t v
      → lists_at a (simple (lifted_type raw (Axis a) t))
      (simple_value (lifted_type raw (Axis a) t) (lifted_value raw (Axis a) t v))
      ≡ map given (lists_at a t v)
  item-given a t v s h =
      ap₂ (lists_at a) (normal_type cf tf vf a t s) (normal_value cf tf vf a t v s h)
      ∙ lists-given a t v h

  module _ (f : ListFunction) (is : f.giving ≡ raw) where
    -- what is given at an axis, and that the type is not refused
    record IsGivenAt (d : Datum) (r : Option Refusal) (l : Option Limit) (e : Datum) : Type 0 where
      told : r ≡ None
      limited : l ≡ None
      datum : e ≡ d

    given_at : (r : Option Refusal) (l : Option Limit) (s : Option Spoil) (d e : Datum)
        → refused_or (first_told r l s) d ≡ Ok e → IsGivenAt d r l e
    given_at r l s d e g =
        let k = refused_or-Ok (first_told r l s) d e g in
        record {
          told = none_map refusal_fault r (or-both (option_map refusal_fault r)
              (option_map limit_fault l or option_map spoil_fault s) k.0).0;
          limited = none_map limit_fault l (or-both (option_map limit_fault l)
              (option_map spoil_fault s) (or-both (option_map refusal_fault r)
              (option_map limit_fault l or option_map spoil_fault s) k.0).1).0;
          datum = sym k.1;
        }

    abbrev item_at : Giving → ℕ → DataType → Value → Value
    item_at g a t v = simple_value (lifted_type g (Axis a) t) (lifted_value g (Axis a) t v)

    abbrev whole_at : Giving → DataType → List Value → Datum
    whole_at g t vs =
        settle (simple (given_type g None t)) (simple_value (given_type g None t)
        (given_value g t vs))

    whole-list : (c : Class) (t : DataType) (ws : List Value)
        → lists_of (pos 0) (settle (simple (list_type c t))
        (simple_value (list_type c t) (list (values_from ws))))
        ≡ (simple t, map (simple_value t) ws) ∷ []
    whole-list None t ws =
        ap (λ xs. (simple t, xs) ∷ [])
        (value_list-from (map (simple_value t) (value_list (values_from ws)))
        ∙ ap (map (simple_value t)) (value_list-from ws))
    whole-list (Some n) t ws =
        ap (λ xs. (simple t, xs) ∷ [])
        (value_list-from (map (simple_value t) (value_list (values_from ws)))
        ∙ ap (map (simple_value t)) (value_list-from ws))

    on_whole-given : (t : DataType) (vs : List Value) (d : Datum) → on_whole f t vs ≡ Ok d
        → (f.refusal t ≡ None) × (lists_of (pos 0) d ≡ given (t, vs) ∷ [])
    on_whole-given t vs d e =
        let k = given_at (f.refusal t) (limit (simple (made_type f.giving t)))
        (f.spoil t (vs ∷ [])) (whole_at f.giving t vs) d e in (
          k.told,
          ap (lists_of (pos 0)) (k.datum ∙ ap (λ g. whole_at g t vs) is)
              ∙ whole-list (cf None) (tf t) (vf t vs),
        )

    on_items-given : (a : ℕ) (t : DataType) (vs : List Value) (d : Datum) → IsSimple t
        → AllByRecursion (Has t) vs → on_items f (Axis a) t vs ≡ Ok d
        → (refusal_at f (Axis a) t ≡ None)
        × (lists_of (pos (suc a)) d ≡ map given (flat_map (lists_at a t) vs))
    on_items-given a t vs d s h e =
        let k = given_at (refusal_at f (Axis a) t)
        (limit (simple (lifted_type f.giving (Axis a) t)))
        (first_spoil (too_many (length vs)) (spoil_at f (Axis a) t vs))
        (arr (simple (lifted_type f.giving (Axis a) t)) (map (λ v. item_at f.giving a t v) vs)) d e
        in (
          k.told,
          ap (lists_of (pos (suc a)))
              (k.datum ∙ ap (λ g. arr (simple (lifted_type g (Axis a) t))
              (map (λ v. item_at g a t v) vs)) is)
              ∙ flat-typed (Has t) (lists_at a (simple (lifted_type raw (Axis a) t))) (lists_at a t)
              (λ v. item_at raw a t v) given vs (λ v i. item-given a t v s i) h,
        )

    on_one-given : (a : ℕ) (t : DataType) (v : Value) (d : Datum) → IsSimple t → Has t v
        → on_one f (Axis a) t v ≡ Ok d
        → (refusal_at f (Axis a) t ≡ None) × (lists_of (pos a) d ≡ map given (lists_at a t v))
    on_one-given a t v d s h e =
        let k = given_at (refusal_at f (Axis a) t)
        (limit (simple (lifted_type f.giving (Axis a) t))) (spoil_at f (Axis a) t (v ∷ []))
        (one (simple (lifted_type f.giving (Axis a) t)) (item_at f.giving a t v)) d e in (
          k.told,
          ap (lists_of (pos a))
              (k.datum ∙ ap (λ g. one (simple (lifted_type g (Axis a) t)) (item_at g a t v)) is)
              ∙ lists_of-one a (simple (lifted_type raw (Axis a) t)) (item_at raw a t v)
              ∙ item-given a t v s h,
        )
      where
        lists_of-one : (a : ℕ) (t : DataType) (v : Value)
            → lists_of (pos a) (one t v) ≡ lists_at a t v
        lists_of-one zero t v = refl
        lists_of-one (suc a) t v = refl

    -- each list at an axis of what is given is what the function gives for that list
    pub each-given : (axis : ℤ) (d e : Datum) → IsTyped d → IsSimple (datum_type d)
        → lift f axis d ≡ Ok e → lists_of axis e ≡ map given (lists_of axis d)
    each-given (negsuc a) d e h s g = cc
    each-given (pos zero) (arr t vs) e h s g = (on_whole-given t vs e g).1
    each-given (pos (suc a)) (arr t vs) e h s g = (on_items-given a t vs e s h g).1
    each-given (pos zero) (one t v) e h s g = (on_one-given zero t v e s h g).1
    each-given (pos (suc a)) (one t v) e h s g = (on_one-given (suc a) t v e s h g).1

    -- and no list there is refused by the type of its items
    pub allowed-given : (axis : ℤ) (d e : Datum) → IsTyped d → IsSimple (datum_type d)
        → IsType (datum_type d) → lift f axis d ≡ Ok e
        → AllByRecursion (IsAllowed f) (lists_of axis d)
    allowed-given (negsuc a) d e h s k g = cc
    allowed-given (pos zero) (arr t vs) e h s k g = ((k, (on_whole-given t vs e g).0), tt)
    allowed-given (pos (suc a)) (arr t vs) e h s k g =
        all_joined (Has t) (IsAllowed f) (lists_at a t) vs
        (λ x i. allowed_at f a t x k (on_items-given a t vs e s h g).0 i) h
    allowed-given (pos zero) (one t v) e h s k g =
        allowed_at f zero t v k (on_one-given zero t v e s h g).0 h
    allowed-given (pos (suc a)) (one t v) e h s k g =
        allowed_at f (suc a) t v k (on_one-given (suc a) t v e s h g).0 h

    -- nor is the type of what is given past a limit
    whole-type : (c : Class) (t : DataType) (ws : List Value)
        → datum_type (settle (simple (list_type c t))
        (simple_value (list_type c t) (list (values_from ws)))) ≡ simple t
    whole-type None t ws = refl
    whole-type (Some n) t ws = refl

    pub limited-given : (axis : ℤ) (d e : Datum) → lift f axis d ≡ Ok e
        → limit (datum_type e) ≡ None
    limited-given (negsuc a) d e g = cc
    limited-given (pos zero) (arr t vs) e g =
        let k = given_at (f.refusal t) (limit (simple (made_type f.giving t)))
        (f.spoil t (vs ∷ [])) (whole_at f.giving t vs) e g in
        ap limit (ap datum_type (k.datum ∙ ap (λ g. whole_at g t vs) is)
        ∙ whole-type (cf None) (tf t) (vf t vs))
        ∙ sym (ap (λ g. limit (simple (made_type g t))) is) ∙ k.limited
    limited-given (pos (suc a)) (arr t vs) e g =
        let u = simple (lifted_type f.giving (Axis a) t) in
        let k = given_at (refusal_at f (Axis a) t) (limit u)
        (first_spoil (too_many (length vs)) (spoil_at f (Axis a) t vs))
        (arr u (map (λ v. item_at f.giving a t v) vs)) e g in
        ap (λ d. limit (datum_type d)) k.datum ∙ k.limited
    limited-given (pos zero) (one t v) e g =
        let u = simple (lifted_type f.giving (Axis zero) t) in
        let k = given_at (refusal_at f (Axis zero) t) (limit u) (spoil_at f (Axis zero) t (v ∷ []))
        (one u (item_at f.giving zero t v)) e g in
        ap (λ d. limit (datum_type d)) k.datum ∙ k.limited
    limited-given (pos (suc a)) (one t v) e g =
        let u = simple (lifted_type f.giving (Axis (suc a)) t) in
        let k = given_at (refusal_at f (Axis (suc a)) t) (limit u)
        (spoil_at f (Axis (suc a)) t (v ∷ [])) (one u (item_at f.giving (suc a) t v)) e g in
        ap (λ d. limit (datum_type d)) k.datum ∙ k.limited
