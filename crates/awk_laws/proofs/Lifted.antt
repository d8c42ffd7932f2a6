-- What a function that gives lists makes of a simple type, made simple: the same function, with the
-- items that it gives made simple.
use Rattle.std.specs.Prelude.{◌≡◌, ℕ, zero, suc, ◌-◌, ◌==◌, min, Bool, true, false, List, []}
use Rattle.std.specs.Prelude.{◌∷◌, map, None, Some, refl, if◌then◌else◌}
use Rattle.std.specs.List.{AllByRecursion}
use Rattle.std.proofs.Common.{arith, ap, ap₂, sym, ◌∙◌, subst}
use Rattle.std.proofs.lemmas.Simd.{map-map}
use Rattle.awk_types.specs.DataType.{DataType, DataTypes, unknown, leaf, var, reg, rec, tup, opt}
use Rattle.awk_types.specs.DataType.{uni, no_types, type, types_from}
use Rattle.awk_types.specs.Has.{Has, HasRow, HasAlternative}
use Rattle.awk_types.specs.Simple.{IsSimple, AreSimple, ArePlain, is_option, is_union, present}
use Rattle.awk_types.specs.Simple.{simple, simples, simple_value, simple_values, in_list, in_row}
use Rattle.awk_types.specs.Simple.{values_by, value_by, union_of, value_after, alternatives_before}
use Rattle.awk_types.specs.Value.{Value, Values, int, truth, null, list, row, alt, value_list}
use Rattle.awk_types.specs.Value.{values_from}
use Rattle.awk_types.proofs.SimpleLaws.{present_stays, plain_are_simple, union_of_stays}
use Rattle.awk_types.proofs.SimpleLaws.{simple_is_simple, present_alternatives_stay}
use Rattle.awk_types.proofs.Trees.{type_list-from, value_list-from}
use Rattle.awk_types.proofs.NullLaws.{in_option-simple}
use Rattle.awk_list_functions.specs.Lift.{nested, lifted_type, lifted_types, lifted_value}
use Rattle.awk_list_functions.specs.Lift.{lifted_values}
use Rattle.awk_list_functions.specs.ListFunction.{Giving, lists}
use Rattle.awk_list_functions.specs.declared.place.Reach.TheVariants.{Axis}
use Rattle.awk_columns.specs.ListClass.{Class, list_type}
use Rattle.awk_columns.proofs.ListNodes.{simple-list, simple_value-list}
use Rattle.awk_columns.proofs.ListTypes.{list_no_option}

-- ---- values, by one function after another

each_both : (t : DataType) (f g h : Value → Value) (vs : List Value)
    → ((x : Value) → Has t x → g (f x) ≡ h x) → AllByRecursion (Has t) vs
    → map (λ x. g (f x)) vs ≡ map h vs
each_both t f g h [] e k = refl
each_both t f g h (v ∷ vs) e k = ap₂ (λ x xs. x ∷ xs) (e v k.0) (each_both t f g h vs e k.1)

pub both_in_list : (t : DataType) (f g h : Value → Value) (vs : Values)
    → ((x : Value) → Has t x → g (f x) ≡ h x) → AllByRecursion (Has t) (value_list vs)
    → in_list g (in_list f (list vs)) ≡ in_list h (list vs)
both_in_list t f g h vs e k =
    ap (λ xs. list (values_from xs))
    (ap (map g) (value_list-from (map f (value_list vs))) ∙ map-map g f (value_list vs)
    ∙ each_both t f g h (value_list vs) e k)

pub both_in_row : (f g h : List (Value → Value)) (vs : Values)
    → values_by g (values_by f (value_list vs)) ≡ values_by h (value_list vs)
    → in_row g (in_row f (row vs)) ≡ in_row h (row vs)
both_in_row f g h vs e =
    ap (λ xs. row (values_from xs))
    (ap (values_by g) (value_list-from (values_by f (value_list vs))) ∙ e)

-- ---- types

simple-nested : (m : ℕ) (t : DataType) → simple (nested m t) ≡ nested m (simple t)
simple-nested zero t = refl
simple-nested (suc m) t = ap var (simple-nested m t)

list_no_union : (c : Class) (t : DataType) → is_union (list_type c t) ≡ false
list_no_union None t = refl
list_no_union (Some n) t = refl

nested_no_option : (m : ℕ) (c : Class) (t : DataType)
    → is_option (nested m (list_type c t)) ≡ false
nested_no_option zero c t = list_no_option c t
nested_no_option (suc m) c t = refl

nested_no_union : (m : ℕ) (c : Class) (t : DataType)
    → is_union (nested m (list_type c t)) ≡ false
nested_no_union zero c t = list_no_union c t
nested_no_union (suc m) c t = refl

no_option_if : (b : Bool) (c d : Class) (t u : DataType)
    → is_option (if b then list_type c t else list_type d u) ≡ false
no_option_if true c d t u = list_no_option c t
no_option_if false c d t u = list_no_option d u

no_union_if : (b : Bool) (c d : Class) (t u : DataType)
    → is_union (if b then list_type c t else list_type d u) ≡ false
no_union_if true c d t u = list_no_union c t
no_union_if false c d t u = list_no_union d u

list_bare : (b : ℕ) (c : Bool) (us vs : Values)
    → value_after b (if c then list us else list vs) ≡ alt b (if c then list us else list vs)
list_bare b true us vs = refl
list_bare b false us vs = refl

module _ (cf : Class → Class) (tf : DataType → DataType)
    (vf : DataType → List Value → List Value) where
  -- a function of lists, and the same with simple items
  abbrev raw : Giving
  raw = lists cf tf vf

  abbrev made : Giving
  made = lists cf (λ t. simple (tf t)) (λ t vs. map (simple_value (tf t)) (vf t vs))

  pub no_option : (a : ℕ) (t : DataType) → is_option t ≡ false
      → is_option (lifted_type made (Axis a) t) ≡ false
  no_option a unknown e = nested_no_option (min a 61) (cf None) (simple (tf unknown))
  no_option a (leaf p) e = refl
  no_option a (var t) e =
      no_option_if (a == 0) (cf None) None (simple (tf t)) (lifted_type made (Axis (a - 1)) t)
  no_option a (reg n t) e =
      no_option_if (a == 0) (cf (Some n)) (Some n) (simple (tf t))
      (lifted_type made (Axis (a - 1)) t)
  no_option a (rec ns ts) e = refl
  no_option a (tup ts) e = refl
  no_option a (opt t) e = cc
  no_option a (uni ts) e = refl

  no_union : (a : ℕ) (t : DataType) → is_union t ≡ false
      → is_union (lifted_type made (Axis a) t) ≡ false
  no_union a unknown e = nested_no_union (min a 61) (cf None) (simple (tf unknown))
  no_union a (leaf p) e = refl
  no_union a (var t) e =
      no_union_if (a == 0) (cf None) None (simple (tf t)) (lifted_type made (Axis (a - 1)) t)
  no_union a (reg n t) e =
      no_union_if (a == 0) (cf (Some n)) (Some n) (simple (tf t))
      (lifted_type made (Axis (a - 1)) t)
  no_union a (rec ns ts) e = refl
  no_union a (tup ts) e = refl
  no_union a (opt t) e = refl
  no_union a (uni ts) e = cc

  simple_if : (c d : Class) (b : Bool) (t x y : DataType) → simple x ≡ y
      → simple (if b then list_type c t else list_type d x)
      ≡ (if b then list_type c (simple t) else list_type d y)
  simple_if c d true t x y e = simple-list c t
  simple_if c d false t x y e = simple-list d x ∙ ap (list_type d) e

  mutual
    pub normal_type : (a : ℕ) (t : DataType) → IsSimple t
        → simple (lifted_type raw (Axis a) t) ≡ lifted_type made (Axis a) t
    normal_type a unknown s =
        simple-nested (min a 61) (list_type (cf None) (tf unknown))
        ∙ ap (nested (min a 61)) (simple-list (cf None) (tf unknown))
    normal_type a (leaf p) s = refl
    normal_type a (var t) s =
        simple_if (cf None) None (a == 0) (tf t) (lifted_type raw (Axis (a - 1)) t)
        (lifted_type made (Axis (a - 1)) t) (normal_type (a - 1) t s)
    normal_type a (reg n t) s =
        simple_if (cf (Some n)) (Some n) (a == 0) (tf t) (lifted_type raw (Axis (a - 1)) t)
        (lifted_type made (Axis (a - 1)) t) (normal_type (a - 1) t s)
    normal_type a (rec ns ts) s = ap (λ us. rec ns (types_from us)) (normal_types a ts s)
    normal_type a (tup ts) s = ap (λ us. tup (types_from us)) (normal_types a ts s)
    normal_type a (opt t) s =
        ap (λ u. opt (present u)) (normal_type a t s.1)
        ∙ ap opt (present_stays (lifted_type made (Axis a) t) (no_option a t s.0))
    normal_type a (uni ts) s =
        ap union_of (normal_types a ts (plain_are_simple ts s))
        ∙ ap union_of (sym (type_list-from (lifted_types made (Axis a) ts)))
        ∙ union_of_stays (types_from (lifted_types made (Axis a) ts)) (plain_made a ts s)

    pub normal_types : (a : ℕ) (ts : DataTypes) → AreSimple ts
        → simples (types_from (lifted_types raw (Axis a) ts)) ≡ lifted_types made (Axis a) ts
    normal_types a no_types s = refl
    normal_types a (type t ts) s =
        ap₂ (λ u us. u ∷ us) (normal_type a t s.0) (normal_types a ts s.1)

    plain_made : (a : ℕ) (ts : DataTypes) → ArePlain ts
        → ArePlain (types_from (lifted_types made (Axis a) ts))
    plain_made a no_types s = tt
    plain_made a (type t ts) s = (
      no_option a t s.0,
      no_union a t s.1,
      subst IsSimple (normal_type a t s.2) (simple_is_simple (lifted_type raw (Axis a) t)),
      plain_made a ts s.3,
    )

  -- ---- values

  bare : (a b : ℕ) (t : DataType) (v : Value) → is_option t ≡ false → is_union t ≡ false
      → Has t v
      → value_after b (lifted_value made (Axis a) t v) ≡ alt b (lifted_value made (Axis a) t v)
  bare a b unknown v e f h = absurd h
  bare a b (opt t) v e f h = cc
  bare a b (uni ts) v e f h = cc
  bare a b (leaf p) (int z) e f h = refl
  bare a b (leaf p) (truth c) e f h = refl
  bare a b (leaf p) null e f h = absurd h
  bare a b (leaf p) (list vs) e f h = absurd h
  bare a b (leaf p) (row vs) e f h = absurd h
  bare a b (leaf p) (alt j v) e f h = absurd h
  bare a b (var t) (list vs) e f h =
      list_bare b (a == 0)
      (values_from (map (simple_value (tf t)) (vf t (value_list vs))))
      (values_from (map (lifted_value made (Axis (a - 1)) t) (value_list vs)))
  bare a b (var t) (int z) e f h = absurd h
  bare a b (var t) (truth c) e f h = absurd h
  bare a b (var t) null e f h = absurd h
  bare a b (var t) (row vs) e f h = absurd h
  bare a b (var t) (alt j v) e f h = absurd h
  bare a b (reg n t) (list vs) e f h =
      list_bare b (a == 0)
      (values_from (map (simple_value (tf t)) (vf t (value_list vs))))
      (values_from (map (lifted_value made (Axis (a - 1)) t) (value_list vs)))
  bare a b (reg n t) (int z) e f h = absurd h
  bare a b (reg n t) (truth c) e f h = absurd h
  bare a b (reg n t) null e f h = absurd h
  bare a b (reg n t) (row vs) e f h = absurd h
  bare a b (reg n t) (alt j v) e f h = absurd h
  bare a b (rec ns ts) (row vs) e f h = refl
  bare a b (rec ns ts) (int z) e f h = absurd h
  bare a b (rec ns ts) (truth c) e f h = absurd h
  bare a b (rec ns ts) null e f h = absurd h
  bare a b (rec ns ts) (list vs) e f h = absurd h
  bare a b (rec ns ts) (alt j v) e f h = absurd h
  bare a b (tup ts) (row vs) e f h = refl
  bare a b (tup ts) (int z) e f h = absurd h
  bare a b (tup ts) (truth c) e f h = absurd h
  bare a b (tup ts) null e f h = absurd h
  bare a b (tup ts) (list vs) e f h = absurd h
  bare a b (tup ts) (alt j v) e f h = absurd h

  bare_at : (a b : ℕ) (ts : DataTypes) (j : ℕ) (v : Value) → ArePlain ts
      → HasAlternative ts j v
      → value_after b (value_by (lifted_values made (Axis a) ts) j v)
      ≡ alt b (value_by (lifted_values made (Axis a) ts) j v)
  bare_at a b no_types j v s h = absurd h
  bare_at a b (type t ts) zero v s h = bare a b t v s.0 s.1 h
  bare_at a b (type t ts) (suc j) v s h = bare_at a b ts j v s.3 h

  before : (a : ℕ) (ts : DataTypes) (j : ℕ) (v : Value) → ArePlain ts → HasAlternative ts j v
      → alternatives_before (lifted_types made (Axis a) ts) j ≡ j
  before a no_types j v s h = absurd h
  before a (type t ts) zero v s h = refl
  before a (type t ts) (suc j) v s h =
      rw (
        present_alternatives_stay (lifted_type made (Axis a) t) (no_option a t s.0)
            (no_union a t s.1),
        before a ts j v s.3 h,
      ) (omega arith)

  list_if : (c d : Class) (b : Bool) (t u : DataType) (l m : Value → Value) (vs : Values)
      → ((x : Value) → Has t x → simple_value u (l x) ≡ m x)
      → AllByRecursion (Has t) (value_list vs)
      → simple_value (if b then list_type c (tf t) else list_type d u)
      (if b then list (values_from (vf t (value_list vs))) else in_list l (list vs))
      ≡ (if b then list (values_from (map (simple_value (tf t)) (vf t (value_list vs))))
      else in_list m (list vs))
  list_if c d true t u l m vs e h =
      simple_value-list c (tf t) (list (values_from (vf t (value_list vs))))
      ∙ ap (λ ys. list (values_from (map (simple_value (tf t)) ys)))
      (value_list-from (vf t (value_list vs)))
  list_if c d false t u l m vs e h =
      simple_value-list d u (in_list l (list vs)) ∙ both_in_list t l (simple_value u) m vs e h

  mutual
    pub normal_value : (a : ℕ) (t : DataType) (v : Value) → IsSimple t → Has t v
        → simple_value (lifted_type raw (Axis a) t) (lifted_value raw (Axis a) t v)
        ≡ lifted_value made (Axis a) t v
    normal_value a unknown v s h = absurd h
    normal_value a (leaf p) v s h = refl
    normal_value a (var t) (list vs) s h =
        list_if (cf None) None (a == 0) t (lifted_type raw (Axis (a - 1)) t)
        (lifted_value raw (Axis (a - 1)) t) (lifted_value made (Axis (a - 1)) t) vs
        (λ x k. normal_value (a - 1) t x s k) h
    normal_value a (var t) (int z) s h = absurd h
    normal_value a (var t) (truth b) s h = absurd h
    normal_value a (var t) null s h = absurd h
    normal_value a (var t) (row vs) s h = absurd h
    normal_value a (var t) (alt j v) s h = absurd h
    normal_value a (reg n t) (list vs) s h =
        list_if (cf (Some n)) (Some n) (a == 0) t (lifted_type raw (Axis (a - 1)) t)
        (lifted_value raw (Axis (a - 1)) t) (lifted_value made (Axis (a - 1)) t) vs
        (λ x k. normal_value (a - 1) t x s k) h.1
    normal_value a (reg n t) (int z) s h = absurd h
    normal_value a (reg n t) (truth b) s h = absurd h
    normal_value a (reg n t) null s h = absurd h
    normal_value a (reg n t) (row vs) s h = absurd h
    normal_value a (reg n t) (alt j v) s h = absurd h
    normal_value a (rec ns ts) (row vs) s h =
        both_in_row (lifted_values raw (Axis a) ts)
        (simple_values (types_from (lifted_types raw (Axis a) ts)))
        (lifted_values made (Axis a) ts) vs (normal_values a ts (value_list vs) s h)
    normal_value a (rec ns ts) (int z) s h = absurd h
    normal_value a (rec ns ts) (truth b) s h = absurd h
    normal_value a (rec ns ts) null s h = absurd h
    normal_value a (rec ns ts) (list vs) s h = absurd h
    normal_value a (rec ns ts) (alt j v) s h = absurd h
    normal_value a (tup ts) (row vs) s h =
        both_in_row (lifted_values raw (Axis a) ts)
        (simple_values (types_from (lifted_types raw (Axis a) ts)))
        (lifted_values made (Axis a) ts) vs (normal_values a ts (value_list vs) s h)
    normal_value a (tup ts) (int z) s h = absurd h
    normal_value a (tup ts) (truth b) s h = absurd h
    normal_value a (tup ts) null s h = absurd h
    normal_value a (tup ts) (list vs) s h = absurd h
    normal_value a (tup ts) (alt j v) s h = absurd h
    normal_value a (opt t) null s h = refl
    normal_value a (opt t) (int z) s h =
        in_option-simple (lifted_type raw (Axis a) t) (lifted_value raw (Axis a) t (int z))
        ∙ normal_value a t (int z) s.1 h
    normal_value a (opt t) (truth b) s h =
        in_option-simple (lifted_type raw (Axis a) t) (lifted_value raw (Axis a) t (truth b))
        ∙ normal_value a t (truth b) s.1 h
    normal_value a (opt t) (list vs) s h =
        in_option-simple (lifted_type raw (Axis a) t) (lifted_value raw (Axis a) t (list vs))
        ∙ normal_value a t (list vs) s.1 h
    normal_value a (opt t) (row vs) s h =
        in_option-simple (lifted_type raw (Axis a) t) (lifted_value raw (Axis a) t (row vs))
        ∙ normal_value a t (row vs) s.1 h
    normal_value a (opt t) (alt j v) s h =
        in_option-simple (lifted_type raw (Axis a) t) (lifted_value raw (Axis a) t (alt j v))
        ∙ normal_value a t (alt j v) s.1 h
    normal_value a (uni ts) (alt j v) s h =
        ap₂ (λ us x. value_after (alternatives_before us j) x)
        (normal_types a ts (plain_are_simple ts s))
        (normal_at a ts j v (plain_are_simple ts s) h)
        ∙ ap (λ (i : ℕ). value_after i (value_by (lifted_values made (Axis a) ts) j v))
        (before a ts j v s h)
        ∙ bare_at a j ts j v s h
    normal_value a (uni ts) (int z) s h = absurd h
    normal_value a (uni ts) (truth b) s h = absurd h
    normal_value a (uni ts) null s h = absurd h
    normal_value a (uni ts) (list vs) s h = absurd h
    normal_value a (uni ts) (row vs) s h = absurd h

    normal_values : (a : ℕ) (ts : DataTypes) (vs : List Value) → AreSimple ts → HasRow ts vs
        → values_by (simple_values (types_from (lifted_types raw (Axis a) ts)))
        (values_by (lifted_values raw (Axis a) ts) vs)
        ≡ values_by (lifted_values made (Axis a) ts) vs
    normal_values a no_types vs s h = refl
    normal_values a (type t ts) [] s h = absurd h
    normal_values a (type t ts) (v ∷ vs) s h =
        ap₂ (λ x xs. x ∷ xs) (normal_value a t v s.0 h.0) (normal_values a ts vs s.1 h.1)

    normal_at : (a : ℕ) (ts : DataTypes) (j : ℕ) (v : Value) → AreSimple ts
        → HasAlternative ts j v
        → value_by (simple_values (types_from (lifted_types raw (Axis a) ts))) j
        (value_by (lifted_values raw (Axis a) ts) j v)
        ≡ value_by (lifted_values made (Axis a) ts) j v
    normal_at a no_types j v s h = absurd h
    normal_at a (type t ts) zero v s h = normal_value a t v s.0 h
    normal_at a (type t ts) (suc j) v s h = normal_at a ts j v s.1 h
