-- Expressions by their heads.
use Rattle.std.proofs.Common.{◌≡◌, ◌≤◌, ◌<◌, ℕ, ℤ, suc, Bool, List, [], ◌∷◌, map, length, get_or}
use Rattle.std.proofs.Common.{Bor, Vec, BTreeMap, Global, Option, Some, None, option_map}
use Rattle.std.proofs.Common.{option_and_then, Result, Ok, Err, string_bytes, String, refl, sym, ap}
use Rattle.std.proofs.Common.{◌∙◌, subst, arith, zero, rules}
use Rattle.awk_types.specs.Gives.{Told}
use Rattle.serde_json.specs.Data.{Data, Num, null, boolean, number, string, array, object, depth}
use Rattle.serde_json.specs.View.{view, items_view, members_view, number_view}
use Rattle.serde_json.proofs.Views.{view-Array, view-Object}
use Rattle.serde_json.specs.declared.number.Number.{Number as JsonNumber}
use Rattle.serde_json.specs.declared.value.Value.{Value, the_lemmas}
use Rattle.serde_json.specs.declared.value.Value.TheVariants as value
use Rattle.awk_expr.specs.Arguments.{Args, all_of}
use Rattle.awk_expr.specs.ExprTree as tree
use Rattle.awk_expr.specs.ExprTree.{ExprTree, exprs_from}
use Rattle.awk_expr.specs.Reading.{Head, whole, call, list_head, head_of, expr_with, expr_said}
use Rattle.awk_expr.specs.Reading.{whole_said}
use Rattle.awk_expr.specs.WholeNumbers.{whole_in}
use Rattle.awk_expr.specs.View.{expr_of, exprs_of}
use Rattle.awk_expr.specs.declared.op.Op.{Op}
use Rattle.awk_expr.specs.declared.fixed.Fixed.{Fixed}
use Rattle.awk_expr.specs.declared.expr.Expr.TheVariants.{Call}
use Rattle.awk_expr.specs.declared.expr.Exprs.{Exprs}
use Rattle.awk_expr.proofs.Views.{expr_of-Call}
use Rattle.awk_expr.specs.Told.{Unread, query, or_query}
use Rattle.awk_expr.proofs.Lists.{item_list-items_view}
use Rattle.awk_expr.proofs.Levels.{levels, levels-items, HeadShallow, expr_said-head}

pub made_call : (op : Op) (args : Exprs) (fixed : Fixed)
    → expr_of (Call op args fixed) ≡ tree.call op (exprs_from (exprs_of args)) fixed
made_call = expr_of-Call

-- ---- the kinds of values

pub string-expr : (s : List ℕ) → or_query (expr_said (string s)) ≡ Ok (tree.var s)
string-expr s = ap or_query (expr_said-head (string s))

pub truth-expr : (b : Bool) → or_query (expr_said (boolean b)) ≡ Ok (tree.truth b)
truth-expr b = ap or_query (expr_said-head (boolean b))

pub null-expr : or_query (expr_said null) ≡ Err query
null-expr = ap or_query (expr_said-head null)

pub object-expr : (d : Data) → head_of d ≡ None → or_query (expr_said d) ≡ Err query
object-expr d e = ap or_query (expr_said-head d ∙ ap (option_and_then (expr_with expr_said)) e)

through : (o : Option ℤ)
    → option_and_then (expr_with expr_said) (option_map whole o) ≡ option_map tree.whole o
through None = refl
through (Some z) = refl

pub number-expr : (n : Num) → or_query (expr_said (number n)) ≡ or_query (whole_said (number n))
number-expr n = ap or_query (expr_said-head (number n) ∙ through (whole_in n))

pub array-expr : (v : Value) (a : Vec Value Global) (vs : List Value) → v ≡ value.Array a
    → vs ≡ a.items
    → or_query (option_and_then (expr_with expr_said) (list_head (map view vs))) ≡ or_query
    (expr_said (view v))
array-expr v a vs is items =
    ap or_query
    (ap (λ ds. option_and_then (expr_with expr_said) (list_head ds))
    (ap (map view) items ∙ sym (item_list-items_view a.items))
    ∙ sym (expr_said-head (array (items_view a.items)))
    ∙ ap expr_said (sym (ap view is ∙ view-Array a)))

-- the values of a list nest no deeper than it
pub array-levels : (v : Value) (a : Vec Value Global) (vs : List Value) → v ≡ value.Array a
    → vs ≡ a.items → levels (map view vs) ≤ depth (view v)
array-levels v a vs is items =
    subst (λ d. levels (map view vs) ≤ depth d) (sym (ap view is ∙ view-Array a))
    (subst (λ ds. levels ds ≤ depth (array (items_view a.items)))
    (item_list-items_view a.items ∙ ap (map view) (sym items))
    (levels-items (items_view a.items)))

pub item-levels : (vs : List (Bor Value)) (i : ℕ) (v d : Bor Value) → i < length vs
    → v ≡ get_or vs i d → suc (depth (view v.now)) ≤ levels (map (λ (w : Bor Value). view w.now) vs)
item-levels [] i v d h e = absurd (omega (arith, h))
item-levels (x ∷ xs) zero v d h e = omega (arith, ap (λ (y : Bor Value). depth (view y.now)) e)
item-levels (x ∷ xs) (suc i) v d h e = omega (arith, item-levels xs i v d (omega (arith, h)) e)

-- ---- a call

with_call : (op : Op) (a : Args) (o : Option Head) → or_query o ≡ Ok (call op a)
    → option_and_then (expr_with expr_said) o ≡ option_map
    (λ es. tree.call op (exprs_from es) a.fixed) (all_of expr_said a.exprs)
with_call op a None e = absurd (cc)
with_call op a (Some h) e = let same : h ≡ call op a = cc in ap (expr_with expr_said) same

pub call-done : (op : Op) (a : Args) (o : Option Head) (es : List ExprTree)
    → or_query o ≡ Ok (call op a) → or_query (all_of expr_said a.exprs) ≡ Ok es
    → or_query (option_and_then (expr_with expr_said) o) ≡ Ok (tree.call op (exprs_from es) a.fixed)
call-done op a o es e d = ap or_query (with_call op a o e) ∙ by (all_of expr_said a.exprs) d
  where
    by : (os : Option (List ExprTree)) → or_query os ≡ Ok es
        → or_query (option_map (λ fs. tree.call op (exprs_from fs) a.fixed) os) ≡ Ok
        (tree.call op (exprs_from es) a.fixed)
    by None d = absurd (cc)
    by (Some fs) d = let same : fs ≡ es = cc in
        ap (λ fs. Ok (tree.call op (exprs_from fs) a.fixed)) same

-- the same fault of another value
abbrev pub failed : {A B : Type 0} → Result A Unread → Result B Unread
failed (Ok a) = Err query
failed (Err u) = Err u

mapped-told : {A B : Type 0} (f : A → B) (t : Option Unread) (o : Option A) → Told t (or_query o)
    → Told t (or_query (option_map f o))
mapped-told f None o h = tt
mapped-told f (Some u) None h = ap failed h
mapped-told f (Some u) (Some a) h = absurd (cc)

pub call-told : (t : Option Unread) (op : Op) (a : Args) (o : Option Head)
    → or_query o ≡ Ok (call op a) → Told t (or_query (all_of expr_said a.exprs))
    → Told t (or_query (option_and_then (expr_with expr_said) o))
call-told t op a o e h =
    subst (λ p. Told t (or_query p)) (sym (with_call op a o e))
    (mapped-told (λ es. tree.call op (exprs_from es) a.fixed) t (all_of expr_said a.exprs) h)

pub head-told : (t : Option Unread) (o : Option Head) → Told t (or_query o)
    → Told t (or_query (option_and_then (expr_with expr_said) o))
head-told None o h = tt
head-told (Some u) None h = ap failed h
head-told (Some u) (Some a) h = absurd (cc)

pub call-levels : (n : ℕ) (op : Op) (a : Args) (o : Option Head) → or_query o ≡ Ok (call op a)
    → HeadShallow n o → levels a.exprs ≤ n
call-levels n op a None e h = absurd (cc)
call-levels n op a (Some k) e h = let same : k ≡ call op a = cc in
    subst (λ k. HeadShallow n (Some k)) same h

-- ---- values in code

view-String : (s : String Global) → view (value.String s) ≡ string (string_bytes s)
view-String s = search (rules, the_lemmas)

view-Number : (x : JsonNumber) → view (value.Number x) ≡ number (number_view x)
view-Number x = search (rules, the_lemmas)

view-Bool : (b : Bool) → view (value.Bool b) ≡ boolean b
view-Bool b = search (rules, the_lemmas)

view-Null : view value.Null ≡ null
view-Null = search (rules, the_lemmas)

pub string-value : (v : Value) (s : String Global) (n : List ℕ) → v ≡ value.String s
    → n ≡ string_bytes s → Ok (tree.var n) ≡ or_query (expr_said (view v))
string-value v s n is e = ap (λ m. Ok (tree.var m)) e
    ∙ sym (ap (λ w. or_query (expr_said (view w))) is
    ∙ ap (λ d. or_query (expr_said d)) (view-String s) ∙ string-expr (string_bytes s))

pub number-value : (v : Value) (x : JsonNumber) → v ≡ value.Number x
    → or_query (whole_said (view v)) ≡ or_query (expr_said (view v))
number-value v x is =
    subst (λ (d : Data). or_query (whole_said d) ≡ or_query (expr_said d))
    (sym (ap view is ∙ view-Number x)) (sym (number-expr (number_view x)))

pub truth-value : (v : Value) (b : Bool) → v ≡ value.Bool b
    → or_query (expr_said (view v)) ≡ Ok (tree.truth b)
truth-value v b is = ap (λ w. or_query (expr_said (view w))) is
    ∙ ap (λ d. or_query (expr_said d)) (view-Bool b) ∙ truth-expr b

pub null-value : (v : Value) → v ≡ value.Null → or_query (expr_said (view v)) ≡ Err query
null-value v is = ap (λ w. or_query (expr_said (view w))) is
    ∙ ap (λ d. or_query (expr_said d)) view-Null ∙ null-expr

pub object-value : (v : Value) (m : BTreeMap (String Global) Value) → v ≡ value.Object m
    → or_query (expr_said (view v)) ≡ Err query
object-value v m is = ap (λ w. or_query (expr_said (view w))) is
    ∙ ap (λ d. or_query (expr_said d)) (view-Object m)
    ∙ object-expr (object (members_view m.entries)) refl
