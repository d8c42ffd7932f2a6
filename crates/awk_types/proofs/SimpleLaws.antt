-- The laws of simplifying.
use Rattle.std.proofs.Common.{◌≡◌, ℕ, zero, ◌+◌, suc, Bool, List, [], ◌∷◌, ◌++◌, map, refl, ap}
use Rattle.std.proofs.Common.{arith, length, true, false, ◌∙◌, sym, subst, ap₂}
use Rattle.std.proofs.lemmas.List.{length-map}
use Rattle.std.proofs.Math.Bool.{or-true}
use Rattle.std.specs.List.{list_any, flat_map, AllByRecursion}
use Rattle.std.specs.Prelude.{replicate}
use Rattle.awk_types.specs.DataType.{DataType, unknown, leaf, var, reg, rec, tup, opt, uni}
use Rattle.awk_types.specs.DataType.{DataTypes, no_types, type, types_from, type_list}
use Rattle.awk_types.specs.Value.{Value, null, list, row, alt, Values, value_list, values_from}
pub use Rattle.awk_types.specs.Predicates.{is_null}
use Rattle.awk_types.specs.Has.{Has, HasRow, HasAlternative}
use Rattle.awk_types.specs.Simple.{present, option_if, is_option, is_union, present_alternatives}
use Rattle.awk_types.specs.Simple.{alternatives, option_of, union_of, simple, simples, in_list}
use Rattle.awk_types.specs.Simple.{values_by, in_option, in_alternative, value_by}
use Rattle.awk_types.specs.Simple.{alternatives_before, value_after, union_value, simple_value}
use Rattle.awk_types.specs.Simple.{simple_values, IsSimple, AreSimple, ArePlain}
use Rattle.awk_types.proofs.Trees.{types_from-list, type_list-from, values_from-list}
use Rattle.awk_types.proofs.Trees.{value_list-from}

-- ---- what a union gives

pub present_alternatives-option_if : (b : Bool) (ts : List DataType)
    → present_alternatives (option_if b (uni (types_from ts))) ≡ ts
present_alternatives-option_if true ts = type_list-from ts
present_alternatives-option_if false ts = type_list-from ts

-- a union gives what its alternatives give
pub present_alternatives-union_of : (ts : List DataType)
    → present_alternatives (union_of ts) ≡ flat_map present_alternatives ts
present_alternatives-union_of ts =
    present_alternatives-option_if (list_any is_option ts) (flat_map present_alternatives ts)

-- ---- what is simple

pub option_of_simple : (t : DataType) → IsSimple t → IsSimple (option_of t)
option_of_simple (opt t) h = h
option_of_simple t h = (refl, h)

pub present_simple : (t : DataType) → IsSimple t → IsSimple (present t)
present_simple (opt t) h = h.1
present_simple t h = h

pub present_no_option : (t : DataType) → IsSimple t → is_option (present t) ≡ false
present_no_option (opt t) h = h.0
present_no_option t h = refl

pub plain_append : (ts us : List DataType) → ArePlain (types_from ts) → ArePlain (types_from us)
    → ArePlain (types_from (ts ++ us))
plain_append [] us h k = k
plain_append (t ∷ ts) us h k = (h.0, h.1, h.2, plain_append ts us h.3 k)

pub alternatives_plain : (t : DataType) → IsSimple t → is_option t ≡ false
    → ArePlain (types_from (alternatives t))
alternatives_plain (uni ts) h e = subst ArePlain (sym (types_from-list ts)) h
alternatives_plain (opt t) h e = cc
alternatives_plain t h e = (refl, refl, h, tt)

pub present_alternatives_plain : (t : DataType) → IsSimple t
    → ArePlain (types_from (present_alternatives t))
present_alternatives_plain t h =
    alternatives_plain (present t) (present_simple t h) (present_no_option t h)

pub flat_plain : (ts : List DataType) → AreSimple (types_from ts)
    → ArePlain (types_from (flat_map present_alternatives ts))
flat_plain [] h = tt
flat_plain (t ∷ ts) h =
    plain_append (present_alternatives t) (flat_map present_alternatives ts)
    (present_alternatives_plain t h.0) (flat_plain ts h.1)

pub option_if_simple : (b : Bool) (t : DataType) → is_option t ≡ false → IsSimple t
    → IsSimple (option_if b t)
option_if_simple true t e h = (e, h)
option_if_simple false t e h = h

pub union_of_simple : (ts : List DataType) → AreSimple (types_from ts) → IsSimple (union_of ts)
union_of_simple ts h =
    option_if_simple (list_any is_option ts) (uni (types_from (flat_map present_alternatives ts)))
    refl (flat_plain ts h)

mutual
  pub simple_is_simple : (t : DataType) → IsSimple (simple t)
  simple_is_simple unknown = tt
  simple_is_simple (leaf p) = tt
  simple_is_simple (var t) = simple_is_simple t
  simple_is_simple (reg n t) = simple_is_simple t
  simple_is_simple (rec ns ts) = simples_are_simple ts
  simple_is_simple (tup ts) = simples_are_simple ts
  simple_is_simple (opt t) = option_of_simple (simple t) (simple_is_simple t)
  simple_is_simple (uni ts) = union_of_simple (simples ts) (simples_are_simple ts)

  pub simples_are_simple : (ts : DataTypes) → AreSimple (types_from (simples ts))
  simples_are_simple no_types = tt
  simples_are_simple (type t ts) = (simple_is_simple t, simples_are_simple ts)

-- ---- a simple type stays

pub present_stays : (t : DataType) → is_option t ≡ false → present t ≡ t
present_stays (opt t) e = cc
present_stays t e = refl

pub present_alternatives_stay : (t : DataType) → is_option t ≡ false → is_union t ≡ false
    → present_alternatives t ≡ t ∷ []
present_alternatives_stay (opt t) e f = cc
present_alternatives_stay (uni ts) e f = cc
present_alternatives_stay t e f = refl

pub flat_stays : (ts : DataTypes) → ArePlain ts
    → flat_map present_alternatives (type_list ts) ≡ type_list ts
flat_stays no_types h = refl
flat_stays (type t ts) h =
    rw (present_alternatives_stay t h.0 h.1) (ap (λ us. t ∷ us) (flat_stays ts h.3))

pub no_option : (ts : DataTypes) → ArePlain ts → list_any is_option (type_list ts) ≡ false
no_option no_types h = refl
no_option (type t ts) h = rw h.0 (no_option ts h.3)

pub plain_are_simple : (ts : DataTypes) → ArePlain ts → AreSimple ts
plain_are_simple no_types h = tt
plain_are_simple (type t ts) h = (h.2, plain_are_simple ts h.3)

pub union_of_stays : (ts : DataTypes) → ArePlain ts → union_of (type_list ts) ≡ uni ts
union_of_stays ts h = rw (no_option ts h, flat_stays ts h) (ap uni (types_from-list ts))

mutual
  pub simple_stays : (t : DataType) → IsSimple t → simple t ≡ t
  simple_stays unknown h = refl
  simple_stays (leaf p) h = refl
  simple_stays (var t) h = ap var (simple_stays t h)
  simple_stays (reg n t) h = ap (reg n) (simple_stays t h)
  simple_stays (rec ns ts) h =
      ap (λ us. rec ns (types_from us)) (simples_stay ts h) ∙ ap (rec ns) (types_from-list ts)
  simple_stays (tup ts) h =
      ap (λ us. tup (types_from us)) (simples_stay ts h) ∙ ap tup (types_from-list ts)
  simple_stays (opt t) h = ap option_of (simple_stays t h.1) ∙ ap opt (present_stays t h.0)
  simple_stays (uni ts) h =
      ap union_of (simples_stay ts (plain_are_simple ts h)) ∙ union_of_stays ts h

  pub simples_stay : (ts : DataTypes) → AreSimple ts → simples ts ≡ type_list ts
  simples_stay no_types h = refl
  simples_stay (type t ts) h =
      ap (λ u. u ∷ simples ts) (simple_stays t h.0) ∙ ap (λ us. t ∷ us) (simples_stay ts h.1)

pub simple_twice : (t : DataType) → simple (simple t) ≡ simple t
simple_twice t = simple_stays (simple t) (simple_is_simple t)

-- ---- typing

pub has_each : (t u : DataType) (f : Value → Value) → ((v : Value) → Has t v → Has u (f v))
    → (vs : List Value) → AllByRecursion (Has t) vs → AllByRecursion (Has u) (map f vs)
has_each t u f each [] h = tt
has_each t u f each (v ∷ vs) h = (each v h.0, has_each t u f each vs h.1)

pub has_list : (t u : DataType) (f : Value → Value) → ((v : Value) → Has t v → Has u (f v))
    → (v : Value) → Has (var t) v → Has (var u) (in_list f v)
has_list t u f each (list vs) h =
    subst (AllByRecursion (Has u)) (sym (value_list-from (map f (value_list vs))))
    (has_each t u f each (value_list vs) h)
has_list t u f each v h = absurd h

pub has_reg : (n : ℕ) (t u : DataType) (f : Value → Value) → ((v : Value) → Has t v → Has u (f v))
    → (v : Value) → Has (reg n t) v → Has (reg n u) (in_list f v)
has_reg n t u f each (list vs) h =
    subst (λ ws. (length ws ≡ n) × AllByRecursion (Has u) ws)
    (sym (value_list-from (map f (value_list vs))))
    (length-map (value_list vs) f ∙ h.0, has_each t u f each (value_list vs) h.1)
has_reg n t u f each v h = absurd h

-- a value of a type is one of its option
pub has_option : (t : DataType) (v : Value) → Has t v → Has (opt t) v
has_option t null h = tt
has_option t v h = h

pub has_option_of : (t : DataType) (v : Value) → Has t v → Has (option_of t) v
has_option_of (opt t) v h = h
has_option_of t v h = has_option t v h

pub has_option_if : (b : Bool) (t : DataType) (v : Value) → Has t v → Has (option_if b t) v
has_option_if true t v h = has_option t v h
has_option_if false t v h = h

-- null stands only in an option
pub null_in_option : (t : DataType) → Has t null → is_option t ≡ true
null_in_option (opt t) h = refl
null_in_option unknown h = absurd h
null_in_option (leaf p) h = absurd h
null_in_option (var t) h = absurd h
null_in_option (reg n t) h = absurd h
null_in_option (rec ns ts) h = absurd h
null_in_option (tup ts) h = absurd h
null_in_option (uni ts) h = absurd h

-- the alternative that a simple value takes among those that its type gives
abbrev pub inner_tag : Value → ℕ
inner_tag (alt j v) = j
inner_tag v = 0

abbrev pub inner_value : Value → Value
inner_value (alt j v) = v
inner_value v = v

has_left : (ts us : List DataType) (k : ℕ) (v : Value) → HasAlternative (types_from ts) k v
    → HasAlternative (types_from (ts ++ us)) k v
has_left [] us k v h = absurd h
has_left (t ∷ ts) us zero v h = h
has_left (t ∷ ts) us (suc k) v h = has_left ts us k v h

has_at : (ts : DataTypes) (v : Value) (n m : ℕ) → n ≡ m → HasAlternative ts n v
    → HasAlternative ts m v
has_at ts v n m e h = subst (λ n. HasAlternative ts n v) e h

has_right : (ts us : List DataType) (k : ℕ) (v : Value) → HasAlternative (types_from us) k v
    → HasAlternative (types_from (ts ++ us)) (length ts + k) v
has_right [] us k v h = has_at (types_from us) v _ _ (omega arith) h
has_right (t ∷ ts) us k v h =
    has_at (type t (types_from (ts ++ us))) v (suc (length ts + k)) _ (omega arith)
    (has_right ts us k v h)

alternatives_have : (t : DataType) (w : Value) → is_option t ≡ false → Has t w
    → HasAlternative (types_from (alternatives t)) (inner_tag w) (inner_value w)
alternatives_have (uni ts) (alt k v) e h =
    subst (λ us. HasAlternative us k v) (sym (types_from-list ts)) h
alternatives_have (uni ts) w e h = absurd h
alternatives_have (opt t) w e h = cc
alternatives_have t (alt k v) e h = absurd h
alternatives_have t w e h = h

present_alternatives_have : (t : DataType) (w : Value) → IsSimple t → Has t w → is_null w ≡ false
    → HasAlternative (types_from (present_alternatives t)) (inner_tag w) (inner_value w)
present_alternatives_have (opt t) null s h e = cc
present_alternatives_have (opt t) w s h e = alternatives_have t w s.0 h
present_alternatives_have t w s h e = alternatives_have t w refl h

flat_have : (ts : List DataType) (k : ℕ) (w : Value) → AreSimple (types_from ts)
    → HasAlternative (types_from ts) k w → is_null w ≡ false
    → HasAlternative (types_from (flat_map present_alternatives ts))
    (alternatives_before ts k + inner_tag w) (inner_value w)
flat_have [] k w s h e = absurd h
flat_have (t ∷ ts) zero w s h e =
    has_at (types_from (present_alternatives t ++ flat_map present_alternatives ts)) (inner_value w)
    _ _ (omega arith) (has_left (present_alternatives t) (flat_map present_alternatives ts)
    (inner_tag w) (inner_value w) (present_alternatives_have t w s.0 h e))
flat_have (t ∷ ts) (suc k) w s h e =
    has_at (types_from (present_alternatives t ++ flat_map present_alternatives ts)) (inner_value w)
    _ _ (omega arith) (has_right (present_alternatives t) (flat_map present_alternatives ts)
    (alternatives_before ts k + inner_tag w) (inner_value w) (flat_have ts k w s.1 h e))

null_any : (ts : List DataType) (k : ℕ) → HasAlternative (types_from ts) k null
    → list_any is_option ts ≡ true
null_any [] k h = absurd h
null_any (t ∷ ts) zero h = rw (null_in_option t h)
null_any (t ∷ ts) (suc k) h = simp (null_any ts k h, or-true)

pub value_after_alternative : (b : ℕ) (w : Value) → is_null w ≡ false
    → value_after b w ≡ alt (b + inner_tag w) (inner_value w)
value_after_alternative b null e = cc
value_after_alternative b (alt j v) e = refl
value_after_alternative b w e = ap (λ n. alt n w) (omega arith)

pub has_value_after : (ts : List DataType) (k : ℕ) (w : Value) → AreSimple (types_from ts)
    → HasAlternative (types_from ts) k w
    → Has (union_of ts) (value_after (alternatives_before ts k) w)
has_value_after ts k null s h = rw (null_any ts k h) tt
has_value_after ts k w s h =
    rw (value_after_alternative (alternatives_before ts k) w refl)
    (has_option_if (list_any is_option ts) (uni (types_from (flat_map present_alternatives ts)))
    (alt (alternatives_before ts k + inner_tag w) (inner_value w)) (flat_have ts k w s h refl))

-- a value of a union of simple types is, in its place, one of the simple union
pub has_union_value : (ts : List DataType) (v : Value) → AreSimple (types_from ts)
    → Has (uni (types_from ts)) v → Has (union_of ts) (union_value ts v)
has_union_value ts (alt k w) s h = has_value_after ts k w s h
has_union_value ts v s h = absurd h

mutual
  pub has_simple : (t : DataType) (v : Value) → Has t v → Has (simple t) (simple_value t v)
  has_simple unknown v h = h
  has_simple (leaf p) v h = h
  has_simple (var t) v h = has_list t (simple t) (simple_value t) (has_simple t) v h
  has_simple (reg n t) v h = has_reg n t (simple t) (simple_value t) (has_simple t) v h
  has_simple (rec ns ts) (row vs) h =
      subst (HasRow (types_from (simples ts)))
      (sym (value_list-from (values_by (simple_values ts) (value_list vs))))
      (has_simples ts (value_list vs) h)
  has_simple (rec ns ts) v h = absurd h
  has_simple (tup ts) (row vs) h =
      subst (HasRow (types_from (simples ts)))
      (sym (value_list-from (values_by (simple_values ts) (value_list vs))))
      (has_simples ts (value_list vs) h)
  has_simple (tup ts) v h = absurd h
  has_simple (opt t) null h = tt
  has_simple (opt t) v h = has_option_of (simple t) (simple_value t v) (has_simple t v h)
  has_simple (uni ts) (alt k v) h =
      has_union_value (simples ts) (alt k (value_by (simple_values ts) k v)) (simples_are_simple ts)
      (has_simple_alternative ts k v h)
  has_simple (uni ts) v h = absurd h

  pub has_simples : (ts : DataTypes) (vs : List Value) → HasRow ts vs
      → HasRow (types_from (simples ts)) (values_by (simple_values ts) vs)
  has_simples no_types [] h = tt
  has_simples no_types (v ∷ vs) h = absurd h
  has_simples (type t ts) [] h = absurd h
  has_simples (type t ts) (v ∷ vs) h = (has_simple t v h.0, has_simples ts vs h.1)

  pub has_simple_alternative : (ts : DataTypes) (k : ℕ) (v : Value) → HasAlternative ts k v
      → HasAlternative (types_from (simples ts)) k (value_by (simple_values ts) k v)
  has_simple_alternative no_types k v h = absurd h
  has_simple_alternative (type t ts) zero v h = has_simple t v h
  has_simple_alternative (type t ts) (suc k) v h = has_simple_alternative ts k v h

-- ---- values of a simple type stay

pub each_stays : (t : DataType) (f : Value → Value) → ((v : Value) → Has t v → f v ≡ v)
    → (vs : List Value) → AllByRecursion (Has t) vs → map f vs ≡ vs
each_stays t f each [] h = refl
each_stays t f each (v ∷ vs) h =
    ap (λ w. w ∷ map f vs) (each v h.0) ∙ ap (λ ws. v ∷ ws) (each_stays t f each vs h.1)

list_stays : (vs : Values) (ws : List Value) → ws ≡ value_list vs → list (values_from ws) ≡ list vs
list_stays vs ws e = rw e (ap list (values_from-list vs))

row_stays : (vs : Values) (ws : List Value) → ws ≡ value_list vs → row (values_from ws) ≡ row vs
row_stays vs ws e = rw e (ap row (values_from-list vs))

-- the alternatives that plain ones give stand where these do
alternatives_before_plain : (ts : DataTypes) (k : ℕ) (v : Value) → ArePlain ts
    → HasAlternative ts k v → alternatives_before (type_list ts) k ≡ k
alternatives_before_plain no_types k v s h = absurd h
alternatives_before_plain (type t ts) zero v s h = refl
alternatives_before_plain (type t ts) (suc k) v s h =
    rw (present_alternatives_stay t s.0 s.1, alternatives_before_plain ts k v s.3 h) (omega arith)

-- a value of a plain type is no null and no alternative
value_after_plain : (t : DataType) (b : ℕ) (v : Value) → is_option t ≡ false → is_union t ≡ false
    → Has t v → value_after b v ≡ alt b v
value_after_plain (opt t) b v e f h = cc
value_after_plain (uni ts) b v e f h = cc
value_after_plain t b null e f h = absurd h
value_after_plain t b (alt j v) e f h = absurd h
value_after_plain t b v e f h = refl

value_after_plain_at : (ts : DataTypes) (k : ℕ) (b : ℕ) (v : Value) → ArePlain ts
    → HasAlternative ts k v → value_after b v ≡ alt b v
value_after_plain_at no_types k b v s h = absurd h
value_after_plain_at (type t ts) zero b v s h = value_after_plain t b v s.0 s.1 h
value_after_plain_at (type t ts) (suc k) b v s h = value_after_plain_at ts k b v s.3 h

pub union_value_stays : (ts : DataTypes) (v : Value) → ArePlain ts → Has (uni ts) v
    → union_value (type_list ts) v ≡ v
union_value_stays ts (alt k v) s h =
    rw (alternatives_before_plain ts k v s h) (value_after_plain_at ts k k v s h)
union_value_stays ts v s h = absurd h

mutual
  pub value_stays : (t : DataType) (v : Value) → IsSimple t → Has t v → simple_value t v ≡ v
  value_stays unknown v s h = refl
  value_stays (leaf p) v s h = refl
  value_stays (var t) (list vs) s h =
      list_stays vs _ (each_stays t (simple_value t) (λ v k. value_stays t v s k) (value_list vs) h)
  value_stays (var t) v s h = absurd h
  value_stays (reg n t) (list vs) s h =
      list_stays vs _ (each_stays t (simple_value t) (λ v k. value_stays t v s k) (value_list vs)
      h.1)
  value_stays (reg n t) v s h = absurd h
  value_stays (rec ns ts) (row vs) s h = row_stays vs _ (values_stay ts (value_list vs) s h)
  value_stays (rec ns ts) v s h = absurd h
  value_stays (tup ts) (row vs) s h = row_stays vs _ (values_stay ts (value_list vs) s h)
  value_stays (tup ts) v s h = absurd h
  value_stays (opt t) null s h = refl
  value_stays (opt t) v s h = value_stays t v s.1 h
  value_stays (uni ts) (alt k v) s h =
      rw (
        simples_stay ts (plain_are_simple ts s),
        alternative_stays ts k v (plain_are_simple ts s)
            h,
      ) (union_value_stays ts (alt k v) s h)
  value_stays (uni ts) v s h = absurd h

  pub values_stay : (ts : DataTypes) (vs : List Value) → AreSimple ts → HasRow ts vs
      → values_by (simple_values ts) vs ≡ vs
  values_stay no_types [] s h = refl
  values_stay no_types (v ∷ vs) s h = absurd h
  values_stay (type t ts) [] s h = absurd h
  values_stay (type t ts) (v ∷ vs) s h =
      ap (λ w. w ∷ values_by (simple_values ts) vs) (value_stays t v s.0 h.0) ∙ ap (λ ws. v ∷ ws)
      (values_stay ts vs s.1 h.1)

  pub alternative_stays : (ts : DataTypes) (k : ℕ) (v : Value) → AreSimple ts
      → HasAlternative ts k v → value_by (simple_values ts) k v ≡ v
  alternative_stays no_types k v s h = absurd h
  alternative_stays (type t ts) zero v s h = value_stays t v s.0 h
  alternative_stays (type t ts) (suc k) v s h = alternative_stays ts k v s.1 h

pub value_twice : (t : DataType) (v : Value) → Has t v
    → simple_value (simple t) (simple_value t v) ≡ simple_value t v
value_twice t v h =
    value_stays (simple t) (simple_value t v) (simple_is_simple t) (has_simple t v h)

-- ---- composing: a node over parts that are simple already

pub in_option_stays : (f : Value → Value) (v : Value) → f v ≡ v → in_option f v ≡ v
in_option_stays f null e = refl
in_option_stays f v e = e

pub simple_union : (ts : List DataType) → AreSimple (types_from ts)
    → simple (uni (types_from ts)) ≡ union_of ts
simple_union ts s = ap union_of (simples_stay (types_from ts) s ∙ type_list-from ts)

pub simple_union_value : (ts : List DataType) (v : Value) → AreSimple (types_from ts)
    → Has (uni (types_from ts)) v → simple_value (uni (types_from ts)) v ≡ union_value ts v
simple_union_value ts (alt k v) s h =
    rw (
      simples_stay (types_from ts) s,
      type_list-from ts,
      alternative_stays (types_from ts) k v s
          h,
    )
simple_union_value ts v s h = absurd h

-- the parts first, and then the whole
pub option_over : (t : DataType) → simple (opt (simple t)) ≡ simple (opt t)
option_over t = ap option_of (simple_twice t)

pub option_value_over : (t : DataType) (v : Value) → Has (opt t) v
    → simple_value (opt (simple t)) (in_option (simple_value t) v) ≡ simple_value (opt t) v
option_value_over t null h = refl
option_value_over t v h =
    in_option_stays (simple_value (simple t)) (simple_value t v) (value_twice t v h)

pub union_over : (ts : DataTypes) → simple (uni (types_from (simples ts))) ≡ simple (uni ts)
union_over ts = simple_union (simples ts) (simples_are_simple ts)

pub union_value_over : (ts : DataTypes) (v : Value) → Has (uni ts) v
    → simple_value (uni (types_from (simples ts))) (in_alternative (simple_values ts) v) ≡
    simple_value (uni ts) v
union_value_over ts (alt k v) h =
    simple_union_value (simples ts) (alt k (value_by (simple_values ts) k v))
    (simples_are_simple ts) (has_simple_alternative ts k v h)
union_value_over ts v h = absurd h

-- a list of values of the whole, once each value is simple in itself
pub each_twice : (t : DataType) (vs : List Value) → AllByRecursion (Has t) vs
    → map (simple_value (simple t)) (map (simple_value t) vs) ≡ map (simple_value t) vs
each_twice t vs h =
    each_stays (simple t) (simple_value (simple t))
    (λ v k. value_stays (simple t) v (simple_is_simple t) k) (map (simple_value t) vs)
    (has_each t (simple t) (simple_value t) (has_simple t) vs h)

-- simple types after simple types
pub simple_append : (ts us : List DataType) → AreSimple (types_from ts) → AreSimple (types_from us)
    → AreSimple (types_from (ts ++ us))
simple_append [] us h k = k
simple_append (t ∷ ts) us h k = (h.0, simple_append ts us h.1 k)

-- a type that stays stays as often as it stands there
pub simples-same : (n : ℕ) (u : DataType) → simple u ≡ u
    → simples (types_from (replicate n u)) ≡ replicate n u
simples-same zero u e = refl
simples-same (suc n) u e = ap₂ (λ t ts. t ∷ ts) e (simples-same n u e)
