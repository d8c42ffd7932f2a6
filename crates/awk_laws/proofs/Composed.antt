-- One function that gives lists after another: where they do to each list what a third does, they
-- do so at each axis.
use Rattle.std.specs.Prelude.{◌≡◌, ℕ, zero, suc, ◌-◌, ◌≤◌, ◌==◌, min, Bool, true, false, List, []}
use Rattle.std.specs.Prelude.{◌∷◌, None, Some, refl}
use Rattle.std.specs.List.{AllByRecursion}
use Rattle.std.proofs.Common.{arith, ap, ap₂, sym, ◌∙◌}
use Rattle.awk_types.specs.DataType.{DataType, DataTypes, unknown, leaf, var, reg, rec, tup, opt}
use Rattle.awk_types.specs.DataType.{uni, no_types, type, types_from}
use Rattle.awk_types.specs.Has.{Has, HasRow, HasAlternative}
use Rattle.awk_types.specs.Simple.{IsSimple, AreSimple, in_list, in_option, values_by, value_by}
use Rattle.awk_types.specs.Value.{Value, Values, int, truth, null, list, row, alt, value_list}
use Rattle.awk_types.specs.Value.{values_from}
use Rattle.awk_types.proofs.SimpleLaws.{plain_are_simple}
use Rattle.awk_types.proofs.Trees.{value_list-from}
use Rattle.awk_list_functions.specs.Lift.{nested, lifted_type, lifted_types, lifted_value}
use Rattle.awk_list_functions.specs.Lift.{lifted_values}
use Rattle.awk_list_functions.specs.ListFunction.{Giving, lists}
use Rattle.awk_list_functions.specs.declared.place.Reach.TheVariants.{Axis}
use Rattle.awk_axis.proofs.LiftLaws.{lifted_null, type-list, type-list_here, value-list}
use Rattle.awk_axis.proofs.LiftLaws.{value-list_here}
use Rattle.awk_columns.specs.ListClass.{Class, list_type}
use Rattle.awk_laws.proofs.Lifted.{both_in_list, both_in_row}

not_here : (m : ℕ) → (suc m == 0) ≡ false
not_here m = grind arith

nested-given : (g : Giving) (m : ℕ) (c : Class) (t u : DataType)
    → ((k : ℕ) → (k == 0) ≡ true → lifted_type g (Axis k) (list_type c t) ≡ u)
    → lifted_type g (Axis m) (nested m (list_type c t)) ≡ nested m u
nested-given g zero c t u e = e 0 refl
nested-given g (suc m) c t u e =
    let one : suc m - 1 ≡ m = omega arith in
    type-list g (Axis (suc m)) None (nested m (list_type c t)) (not_here m)
    ∙ ap (λ (k : ℕ). var (lifted_type g (Axis k) (nested m (list_type c t)))) one
    ∙ ap var (nested-given g m c t u e)

in_option_lifted : (g : Giving) (a : ℕ) (t : DataType) (v : Value)
    → in_option (lifted_value g (Axis a) t) v ≡ lifted_value g (Axis a) t v
in_option_lifted g a t null = sym (lifted_null g (Axis a) t)
in_option_lifted g a t (int z) = refl
in_option_lifted g a t (truth b) = refl
in_option_lifted g a t (list vs) = refl
in_option_lifted g a t (row vs) = refl
in_option_lifted g a t (alt k v) = refl

module _ (cf cg ch : Class → Class) (tf tg th : DataType → DataType)
    (vf vg vh : DataType → List Value → List Value)
    (types : (c : Class) (t : DataType) → IsSimple t
    → list_type (cg (cf c)) (tg (tf t)) ≡ list_type (ch c) (th t))
    (values : (t : DataType) (vs : List Value) → IsSimple t → AllByRecursion (Has t) vs
    → vg (tf t) (vf t vs) ≡ vh t vs) where
  abbrev f : Giving
  f = lists cf tf vf

  abbrev g : Giving
  g = lists cg tg vg

  abbrev h : Giving
  h = lists ch th vh

  list_types : (class : Class) (a : ℕ) (t : DataType) (b : Bool) → (a == 0) ≡ b → IsSimple t
      → lifted_type g (Axis (a - 1)) (lifted_type f (Axis (a - 1)) t)
      ≡ lifted_type h (Axis (a - 1)) t
      → lifted_type g (Axis a) (lifted_type f (Axis a) (list_type class t))
      ≡ lifted_type h (Axis a) (list_type class t)
  list_types class a t true e s i =
      ap (lifted_type g (Axis a)) (type-list_here f (Axis a) class t e)
      ∙ type-list_here g (Axis a) (cf class) (tf t) e ∙ types class t s
      ∙ sym (type-list_here h (Axis a) class t e)
  list_types class a t false e s i =
      ap (lifted_type g (Axis a)) (type-list f (Axis a) class t e)
      ∙ type-list g (Axis a) class (lifted_type f (Axis (a - 1)) t) e
      ∙ ap (list_type class) i
      ∙ sym (type-list h (Axis a) class t e)

  less : (a : ℕ) → a ≤ 61 → a - 1 ≤ 61
  less a p = omega (arith, p)

  mutual
    pub type-composed : (a : ℕ) (t : DataType) → a ≤ 61 → IsSimple t
        → lifted_type g (Axis a) (lifted_type f (Axis a) t) ≡ lifted_type h (Axis a) t
    type-composed a unknown p s =
        let e : min a 61 ≡ a = omega (arith, p) in
        ap (λ (m : ℕ). lifted_type g (Axis a) (nested m (list_type (cf None) (tf unknown)))) e
        ∙ nested-given g a (cf None) (tf unknown) (list_type (ch None) (th unknown))
        (λ k q. type-list_here g (Axis k) (cf None) (tf unknown) q ∙ types None unknown s)
        ∙ ap (λ (m : ℕ). nested m (list_type (ch None) (th unknown))) (sym e)
    type-composed a (leaf p) q s = refl
    type-composed a (var t) p s =
        list_types None a t (a == 0) refl s (type-composed (a - 1) t (less a p) s)
    type-composed a (reg n t) p s =
        list_types (Some n) a t (a == 0) refl s (type-composed (a - 1) t (less a p) s)
    type-composed a (rec ns ts) p s =
        ap (λ us. rec ns (types_from us)) (types-composed a ts p s)
    type-composed a (tup ts) p s = ap (λ us. tup (types_from us)) (types-composed a ts p s)
    type-composed a (opt t) p s = ap opt (type-composed a t p s.1)
    type-composed a (uni ts) p s =
        ap (λ us. uni (types_from us)) (types-composed a ts p (plain_are_simple ts s))

    types-composed : (a : ℕ) (ts : DataTypes) → a ≤ 61 → AreSimple ts
        → lifted_types g (Axis a) (types_from (lifted_types f (Axis a) ts))
        ≡ lifted_types h (Axis a) ts
    types-composed a no_types p s = refl
    types-composed a (type t ts) p s =
        ap₂ (λ u us. u ∷ us) (type-composed a t p s.0) (types-composed a ts p s.1)

  -- ---- values

  list_values : (class : Class) (a : ℕ) (t : DataType) (vs : Values) (b : Bool) → (a == 0) ≡ b
      → IsSimple t → AllByRecursion (Has t) (value_list vs)
      → ((x : Value) → Has t x
      → lifted_value g (Axis (a - 1)) (lifted_type f (Axis (a - 1)) t)
      (lifted_value f (Axis (a - 1)) t x) ≡ lifted_value h (Axis (a - 1)) t x)
      → lifted_value g (Axis a) (lifted_type f (Axis a) (list_type class t))
      (lifted_value f (Axis a) (list_type class t) (list vs))
      ≡ lifted_value h (Axis a) (list_type class t) (list vs)
  list_values class a t vs true e s k i =
      let ys = vf t (value_list vs) in
      ap₂ (lifted_value g (Axis a)) (type-list_here f (Axis a) class t e)
      (value-list_here f (Axis a) class t (list vs) e)
      ∙ value-list_here g (Axis a) (cf class) (tf t) (list (values_from ys)) e
      ∙ ap (λ xs. list (values_from xs))
      (ap (vg (tf t)) (value_list-from ys) ∙ values t (value_list vs) s k)
      ∙ sym (value-list_here h (Axis a) class t (list vs) e)
  list_values class a t vs false e s k i =
      let u = lifted_type f (Axis (a - 1)) t in
      ap₂ (lifted_value g (Axis a)) (type-list f (Axis a) class t e)
      (value-list f (Axis a) class t (list vs) e)
      ∙ value-list g (Axis a) class u (in_list (lifted_value f (Axis (a - 1)) t) (list vs)) e
      ∙ both_in_list t (lifted_value f (Axis (a - 1)) t) (lifted_value g (Axis (a - 1)) u)
      (lifted_value h (Axis (a - 1)) t) vs i k
      ∙ sym (value-list h (Axis a) class t (list vs) e)

  mutual
    pub value-composed : (a : ℕ) (t : DataType) (v : Value) → IsSimple t → Has t v
        → lifted_value g (Axis a) (lifted_type f (Axis a) t) (lifted_value f (Axis a) t v)
        ≡ lifted_value h (Axis a) t v
    value-composed a unknown v s k = absurd k
    value-composed a (leaf p) v s k = refl
    value-composed a (var t) (list vs) s k =
        list_values None a t vs (a == 0) refl s k (λ x q. value-composed (a - 1) t x s q)
    value-composed a (var t) (int z) s k = absurd k
    value-composed a (var t) (truth b) s k = absurd k
    value-composed a (var t) null s k = absurd k
    value-composed a (var t) (row vs) s k = absurd k
    value-composed a (var t) (alt j v) s k = absurd k
    value-composed a (reg n t) (list vs) s k =
        list_values (Some n) a t vs (a == 0) refl s k.1 (λ x q. value-composed (a - 1) t x s q)
    value-composed a (reg n t) (int z) s k = absurd k
    value-composed a (reg n t) (truth b) s k = absurd k
    value-composed a (reg n t) null s k = absurd k
    value-composed a (reg n t) (row vs) s k = absurd k
    value-composed a (reg n t) (alt j v) s k = absurd k
    value-composed a (rec ns ts) (row vs) s k =
        both_in_row (lifted_values f (Axis a) ts)
        (lifted_values g (Axis a) (types_from (lifted_types f (Axis a) ts)))
        (lifted_values h (Axis a) ts) vs (values-composed a ts (value_list vs) s k)
    value-composed a (rec ns ts) (int z) s k = absurd k
    value-composed a (rec ns ts) (truth b) s k = absurd k
    value-composed a (rec ns ts) null s k = absurd k
    value-composed a (rec ns ts) (list vs) s k = absurd k
    value-composed a (rec ns ts) (alt j v) s k = absurd k
    value-composed a (tup ts) (row vs) s k =
        both_in_row (lifted_values f (Axis a) ts)
        (lifted_values g (Axis a) (types_from (lifted_types f (Axis a) ts)))
        (lifted_values h (Axis a) ts) vs (values-composed a ts (value_list vs) s k)
    value-composed a (tup ts) (int z) s k = absurd k
    value-composed a (tup ts) (truth b) s k = absurd k
    value-composed a (tup ts) null s k = absurd k
    value-composed a (tup ts) (list vs) s k = absurd k
    value-composed a (tup ts) (alt j v) s k = absurd k
    value-composed a (opt t) null s k = refl
    value-composed a (opt t) (int z) s k =
        in_option_lifted g a (lifted_type f (Axis a) t) (lifted_value f (Axis a) t (int z))
        ∙ value-composed a t (int z) s.1 k
    value-composed a (opt t) (truth b) s k =
        in_option_lifted g a (lifted_type f (Axis a) t) (lifted_value f (Axis a) t (truth b))
        ∙ value-composed a t (truth b) s.1 k
    value-composed a (opt t) (list vs) s k =
        in_option_lifted g a (lifted_type f (Axis a) t) (lifted_value f (Axis a) t (list vs))
        ∙ value-composed a t (list vs) s.1 k
    value-composed a (opt t) (row vs) s k =
        in_option_lifted g a (lifted_type f (Axis a) t) (lifted_value f (Axis a) t (row vs))
        ∙ value-composed a t (row vs) s.1 k
    value-composed a (opt t) (alt j v) s k =
        in_option_lifted g a (lifted_type f (Axis a) t) (lifted_value f (Axis a) t (alt j v))
        ∙ value-composed a t (alt j v) s.1 k
    value-composed a (uni ts) (alt j v) s k =
        ap (alt j) (at-composed a ts j v (plain_are_simple ts s) k)
    value-composed a (uni ts) (int z) s k = absurd k
    value-composed a (uni ts) (truth b) s k = absurd k
    value-composed a (uni ts) null s k = absurd k
    value-composed a (uni ts) (list vs) s k = absurd k
    value-composed a (uni ts) (row vs) s k = absurd k

    values-composed : (a : ℕ) (ts : DataTypes) (vs : List Value) → AreSimple ts → HasRow ts vs
        → values_by (lifted_values g (Axis a) (types_from (lifted_types f (Axis a) ts)))
        (values_by (lifted_values f (Axis a) ts) vs) ≡ values_by (lifted_values h (Axis a) ts) vs
    values-composed a no_types vs s k = refl
    values-composed a (type t ts) [] s k = absurd k
    values-composed a (type t ts) (v ∷ vs) s k =
        ap₂ (λ x xs. x ∷ xs) (value-composed a t v s.0 k.0) (values-composed a ts vs s.1 k.1)

    at-composed : (a : ℕ) (ts : DataTypes) (j : ℕ) (v : Value) → AreSimple ts
        → HasAlternative ts j v
        → value_by (lifted_values g (Axis a) (types_from (lifted_types f (Axis a) ts))) j
        (value_by (lifted_values f (Axis a) ts) j v)
        ≡ value_by (lifted_values h (Axis a) ts) j v
    at-composed a no_types j v s k = absurd k
    at-composed a (type t ts) zero v s k = value-composed a t v s.0 k
    at-composed a (type t ts) (suc j) v s k = at-composed a ts j v s.1 k
