-- The types of the items of lists at an axis.
use Rattle.std.specs.Prelude.{◌≡◌, ℕ, zero, suc, ◌-◌, ◌==◌, ℤ, pos, negsuc, Bool, true, false, List}
use Rattle.std.specs.Prelude.{[], ◌∷◌, Option, Some, None, refl, if◌then◌else◌}
use Rattle.std.specs.List.{AllByRecursion, flat_map}
use Rattle.std.proofs.Common.{sym, subst}
use Rattle.awk_types.specs.DataType.{DataType, DataTypes, unknown, leaf, var, reg, rec, tup, opt}
use Rattle.awk_types.specs.DataType.{uni, no_types, type}
use Rattle.awk_types.specs.Datum.{Datum, arr, one, datum_type}
use Rattle.awk_types.specs.Has.{Has, HasRow, HasAlternative}
use Rattle.awk_types.specs.IsType.{IsType, AreTypes}
use Rattle.awk_types.specs.Simple.{IsSimple, AreSimple}
use Rattle.awk_types.specs.Value.{Value, Values, int, truth, null, list, row, alt, value_list}
use Rattle.awk_types.proofs.SimpleLaws.{plain_are_simple}
use Rattle.awk_list_functions.specs.Lift.{refusal_at, refusal_among}
use Rattle.awk_list_functions.specs.ListFunction.{ListFunction}
use Rattle.awk_list_functions.specs.declared.causes.Refusal.{Refusal}
use Rattle.awk_list_functions.specs.declared.place.Reach.TheVariants.{Axis}
use Rattle.awk_list_functions.proofs.CauseLaws.{sooner-both}
use Rattle.awk_columns.specs.Columns.{list_items}
use Rattle.awk_columns.specs.ListClass.{Class, list_type}
use Rattle.awk_pair_operands.specs.Typed.{IsTyped}
use Rattle.awk_laws.specs.Axes.{TypedList, typed_list, lists_at, lists_in_parts}
use Rattle.awk_laws.specs.Axes.{lists_in_alternative, lists_of}
use Rattle.awk_places.proofs.FlatLaws.{all-append}

-- ---- lists of a type

pub lists_at-list : (a : ℕ) (c : Class) (t : DataType) (v : Value)
    → lists_at a (list_type c t) v
    ≡ (if a == 0 then typed_list t v else flat_map (lists_at (a - 1) t) (list_items v))
lists_at-list a None t v = refl
lists_at-list a (Some n) t v = refl

no_lists : (b : Bool) (t : DataType) (f : Value → List TypedList)
    → (if b then typed_list t null else flat_map f (list_items null)) ≡ []
no_lists true t f = refl
no_lists false t f = refl

mutual
  pub lists_at-null : (a : ℕ) (t : DataType) → lists_at a t null ≡ []
  lists_at-null a unknown = refl
  lists_at-null a (leaf p) = refl
  lists_at-null a (var t) = no_lists (a == 0) t (lists_at (a - 1) t)
  lists_at-null a (reg n t) = no_lists (a == 0) t (lists_at (a - 1) t)
  lists_at-null a (rec ns ts) = no_parts a ts
  lists_at-null a (tup ts) = no_parts a ts
  lists_at-null a (opt t) = lists_at-null a t
  lists_at-null a (uni ts) = no_alternative a ts

  no_parts : (a : ℕ) (ts : DataTypes) → lists_in_parts a ts [] ≡ []
  no_parts a no_types = refl
  no_parts a (type t ts) = refl

  no_alternative : (a : ℕ) (ts : DataTypes) → lists_in_alternative a ts 0 null ≡ []
  no_alternative a no_types = refl
  no_alternative a (type t ts) = lists_at-null a t

-- ---- properties of lists

pub all_joined : (P : Value → Type 0) (Q : TypedList → Type 0) (f : Value → List TypedList)
    (vs : List Value) → ((x : Value) → P x → AllByRecursion Q (f x)) → AllByRecursion P vs
    → AllByRecursion Q (flat_map f vs)
all_joined P Q f [] e k = tt
all_joined P Q f (v ∷ vs) e k =
    all-append Q (f v) (flat_map f vs) (e v k.0) (all_joined P Q f vs e k.1)

-- items of a simple type
abbrev pub IsPlain : TypedList → Type 0
IsPlain l = IsSimple l.0 × AllByRecursion (Has l.0) l.1

plain_if : (b : Bool) (t : DataType) (us : Values) (f : Value → List TypedList) → IsSimple t
    → AllByRecursion (Has t) (value_list us)
    → ((x : Value) → Has t x → AllByRecursion IsPlain (f x))
    → AllByRecursion IsPlain (if b then typed_list t (list us) else flat_map f (value_list us))
plain_if true t us f s h e = ((s, h), tt)
plain_if false t us f s h e = all_joined (Has t) IsPlain f (value_list us) e h

mutual
  pub plain_at : (a : ℕ) (t : DataType) (v : Value) → IsSimple t → Has t v
      → AllByRecursion IsPlain (lists_at a t v)
  plain_at a unknown v s h = absurd h
  plain_at a (leaf p) v s h = tt
  plain_at a (var t) (list us) s h =
      plain_if (a == 0) t us (lists_at (a - 1) t) s h (λ x k. plain_at (a - 1) t x s k)
  plain_at a (var t) (int z) s h = absurd h
  plain_at a (var t) (truth b) s h = absurd h
  plain_at a (var t) null s h = absurd h
  plain_at a (var t) (row vs) s h = absurd h
  plain_at a (var t) (alt j v) s h = absurd h
  plain_at a (reg n t) (list us) s h =
      plain_if (a == 0) t us (lists_at (a - 1) t) s h.1 (λ x k. plain_at (a - 1) t x s k)
  plain_at a (reg n t) (int z) s h = absurd h
  plain_at a (reg n t) (truth b) s h = absurd h
  plain_at a (reg n t) null s h = absurd h
  plain_at a (reg n t) (row vs) s h = absurd h
  plain_at a (reg n t) (alt j v) s h = absurd h
  plain_at a (rec ns ts) (row us) s h = plain_parts a ts (value_list us) s h
  plain_at a (rec ns ts) (int z) s h = absurd h
  plain_at a (rec ns ts) (truth b) s h = absurd h
  plain_at a (rec ns ts) null s h = absurd h
  plain_at a (rec ns ts) (list vs) s h = absurd h
  plain_at a (rec ns ts) (alt j v) s h = absurd h
  plain_at a (tup ts) (row us) s h = plain_parts a ts (value_list us) s h
  plain_at a (tup ts) (int z) s h = absurd h
  plain_at a (tup ts) (truth b) s h = absurd h
  plain_at a (tup ts) null s h = absurd h
  plain_at a (tup ts) (list vs) s h = absurd h
  plain_at a (tup ts) (alt j v) s h = absurd h
  plain_at a (opt t) null s h = subst (AllByRecursion IsPlain) (sym (lists_at-null a t)) tt
  plain_at a (opt t) (int z) s h = plain_at a t (int z) s.1 h
  plain_at a (opt t) (truth b) s h = plain_at a t (truth b) s.1 h
  plain_at a (opt t) (list vs) s h = plain_at a t (list vs) s.1 h
  plain_at a (opt t) (row vs) s h = plain_at a t (row vs) s.1 h
  plain_at a (opt t) (alt j v) s h = plain_at a t (alt j v) s.1 h
  plain_at a (uni ts) (alt j v) s h = plain_alternative a ts j v (plain_are_simple ts s) h
  plain_at a (uni ts) (int z) s h = absurd h
  plain_at a (uni ts) (truth b) s h = absurd h
  plain_at a (uni ts) null s h = absurd h
  plain_at a (uni ts) (list vs) s h = absurd h
  plain_at a (uni ts) (row vs) s h = absurd h

  plain_parts : (a : ℕ) (ts : DataTypes) (vs : List Value) → AreSimple ts → HasRow ts vs
      → AllByRecursion IsPlain (lists_in_parts a ts vs)
  plain_parts a no_types vs s h = tt
  plain_parts a (type t ts) [] s h = absurd h
  plain_parts a (type t ts) (v ∷ vs) s h =
      all-append IsPlain (lists_at a t v) (lists_in_parts a ts vs) (plain_at a t v s.0 h.0)
      (plain_parts a ts vs s.1 h.1)

  plain_alternative : (a : ℕ) (ts : DataTypes) (j : ℕ) (v : Value) → AreSimple ts
      → HasAlternative ts j v → AllByRecursion IsPlain (lists_in_alternative a ts j v)
  plain_alternative a no_types j v s h = absurd h
  plain_alternative a (type t ts) zero v s h = plain_at a t v s.0 h
  plain_alternative a (type t ts) (suc j) v s h = plain_alternative a ts j v s.1 h

pub plain_lists : (axis : ℤ) (d : Datum) → IsTyped d → IsSimple (datum_type d)
    → AllByRecursion IsPlain (lists_of axis d)
plain_lists (negsuc a) d h s = tt
plain_lists (pos zero) (arr t vs) h s = ((s, h), tt)
plain_lists (pos (suc a)) (arr t vs) h s =
    all_joined (Has t) IsPlain (lists_at a t) vs (λ x k. plain_at a t x s k) h
plain_lists (pos zero) (one t v) h s = plain_at zero t v s h
plain_lists (pos (suc a)) (one t v) h s = plain_at (suc a) t v s h

-- items of a type that a function does not refuse
abbrev pub IsAllowed : ListFunction → TypedList → Type 0
IsAllowed f l = IsType l.0 × (f.refusal l.0 ≡ None)

module _ (f : ListFunction) where
  allowed_if : (b : Bool) (t : DataType) (us : Values) (g : Value → List TypedList)
      (r : Option Refusal) → IsType t → AllByRecursion (Has t) (value_list us)
      → (if b then f.refusal t else r) ≡ None
      → (r ≡ None → (x : Value) → Has t x → AllByRecursion (IsAllowed f) (g x))
      → AllByRecursion (IsAllowed f)
      (if b then typed_list t (list us) else flat_map g (value_list us))
  allowed_if true t us g r k h e i = ((k, e), tt)
  allowed_if false t us g r k h e i =
      all_joined (Has t) (IsAllowed f) g (value_list us) (λ x j. i e x j) h

  mutual
    pub allowed_at : (a : ℕ) (t : DataType) (v : Value) → IsType t
        → refusal_at f (Axis a) t ≡ None → Has t v
        → AllByRecursion (IsAllowed f) (lists_at a t v)
    allowed_at a unknown v k r h = absurd h
    allowed_at a (leaf p) v k r h = tt
    allowed_at a (var t) (list us) k r h =
        allowed_if (a == 0) t us (lists_at (a - 1) t) (refusal_at f (Axis (a - 1)) t) k h r
        (λ e x i. allowed_at (a - 1) t x k e i)
    allowed_at a (var t) (int z) k r h = absurd h
    allowed_at a (var t) (truth b) k r h = absurd h
    allowed_at a (var t) null k r h = absurd h
    allowed_at a (var t) (row vs) k r h = absurd h
    allowed_at a (var t) (alt j v) k r h = absurd h
    allowed_at a (reg n t) (list us) k r h =
        allowed_if (a == 0) t us (lists_at (a - 1) t) (refusal_at f (Axis (a - 1)) t) k h.1 r
        (λ e x i. allowed_at (a - 1) t x k e i)
    allowed_at a (reg n t) (int z) k r h = absurd h
    allowed_at a (reg n t) (truth b) k r h = absurd h
    allowed_at a (reg n t) null k r h = absurd h
    allowed_at a (reg n t) (row vs) k r h = absurd h
    allowed_at a (reg n t) (alt j v) k r h = absurd h
    allowed_at a (rec ns ts) (row us) k r h = allowed_parts a ts (value_list us) k.2 r h
    allowed_at a (rec ns ts) (int z) k r h = absurd h
    allowed_at a (rec ns ts) (truth b) k r h = absurd h
    allowed_at a (rec ns ts) null k r h = absurd h
    allowed_at a (rec ns ts) (list vs) k r h = absurd h
    allowed_at a (rec ns ts) (alt j v) k r h = absurd h
    allowed_at a (tup ts) (row us) k r h = allowed_parts a ts (value_list us) k r h
    allowed_at a (tup ts) (int z) k r h = absurd h
    allowed_at a (tup ts) (truth b) k r h = absurd h
    allowed_at a (tup ts) null k r h = absurd h
    allowed_at a (tup ts) (list vs) k r h = absurd h
    allowed_at a (tup ts) (alt j v) k r h = absurd h
    allowed_at a (opt t) null k r h =
        subst (AllByRecursion (IsAllowed f)) (sym (lists_at-null a t)) tt
    allowed_at a (opt t) (int z) k r h = allowed_at a t (int z) k r h
    allowed_at a (opt t) (truth b) k r h = allowed_at a t (truth b) k r h
    allowed_at a (opt t) (list vs) k r h = allowed_at a t (list vs) k r h
    allowed_at a (opt t) (row vs) k r h = allowed_at a t (row vs) k r h
    allowed_at a (opt t) (alt j v) k r h = allowed_at a t (alt j v) k r h
    allowed_at a (uni ts) (alt j v) k r h = allowed_alternative a ts j v k.1 r h
    allowed_at a (uni ts) (int z) k r h = absurd h
    allowed_at a (uni ts) (truth b) k r h = absurd h
    allowed_at a (uni ts) null k r h = absurd h
    allowed_at a (uni ts) (list vs) k r h = absurd h
    allowed_at a (uni ts) (row vs) k r h = absurd h

    allowed_parts : (a : ℕ) (ts : DataTypes) (vs : List Value) → AreTypes ts
        → refusal_among f (Axis a) ts ≡ None → HasRow ts vs
        → AllByRecursion (IsAllowed f) (lists_in_parts a ts vs)
    allowed_parts a no_types vs k r h = tt
    allowed_parts a (type t ts) [] k r h = absurd h
    allowed_parts a (type t ts) (v ∷ vs) k r h =
        let q = sooner-both (refusal_at f (Axis a) t) (refusal_among f (Axis a) ts) r in
        all-append (IsAllowed f) (lists_at a t v) (lists_in_parts a ts vs)
        (allowed_at a t v k.0 q.0 h.0) (allowed_parts a ts vs k.1 q.1 h.1)

    allowed_alternative : (a : ℕ) (ts : DataTypes) (j : ℕ) (v : Value) → AreTypes ts
        → refusal_among f (Axis a) ts ≡ None → HasAlternative ts j v
        → AllByRecursion (IsAllowed f) (lists_in_alternative a ts j v)
    allowed_alternative a no_types j v k r h = absurd h
    allowed_alternative a (type t ts) zero v k r h =
        let q = sooner-both (refusal_at f (Axis a) t) (refusal_among f (Axis a) ts) r in
        allowed_at a t v k.0 q.0 h
    allowed_alternative a (type t ts) (suc j) v k r h =
        let q = sooner-both (refusal_at f (Axis a) t) (refusal_among f (Axis a) ts) r in
        allowed_alternative a ts j v k.1 q.1 h
