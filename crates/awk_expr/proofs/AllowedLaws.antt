-- What is read is allowed.
use Rattle.std.proofs.Common.{◌≡◌, ℕ, zero, suc, ℤ, pos, negsuc, Bool, true, false, cond, List, []}
use Rattle.std.proofs.Common.{◌∷◌, map, length, length-append, Option, Some, None, option_map}
use Rattle.std.proofs.Common.{option_and_then, is_some, refl, sym, ap, ◌∙◌, subst, arith}
use Rattle.std.specs.Prelude.{◌&&◌}
use Rattle.std.specs.List.{list_all}
use Rattle.std.proofs.lemmas.List.{length-map}
use Rattle.serde_json.specs.Data.{Data, Num, null, boolean, number, string, array, object, depth}
use Rattle.serde_json.specs.Find.{as_str, as_bool, as_number, as_integer}
use Rattle.awk_types.specs.DataType.{Name}
use Rattle.awk_types.specs.Names.{is_among, are_distinct}
use Rattle.awk_expr.specs.Allowed.{is_of_kind, IsFixed, IsArgument, AreArguments, HasArguments}
use Rattle.awk_expr.specs.Allowed.{IsAllowed, AreAllowed}
use Rattle.awk_expr.specs.Arguments.{Args, both, of_fixed, i64_in, u64_in, items_in, item_list}
use Rattle.awk_expr.specs.Arguments.{not_zero, some_count, step_in, some_count_in, primitives}
use Rattle.awk_expr.specs.Arguments.{primitive_name, primitive_in, bound_in, all_of, edges_in}
use Rattle.awk_expr.specs.Arguments.{if_distinct, texts_in, pair_in, some_exprs, names_and_exprs}
use Rattle.awk_expr.specs.Arguments.{named_exprs, fixed_of, part_of, args_of}
use Rattle.awk_expr.specs.ExprTree as tree
use Rattle.awk_expr.specs.ExprTree.{ExprTree, exprs_from, expr_list}
use Rattle.awk_expr.specs.Operations.{Found, row_of}
use Rattle.awk_expr.specs.WholeNumbers.{is_whole, if_whole, whole_in, whole_of, are_edges, if_edges}
use Rattle.awk_expr.specs.Reading.{Head, var, whole, truth, call, call_head, list_head, head_of}
use Rattle.awk_expr.specs.Reading.{expr_with, expr_down, expr_said}
use Rattle.awk_expr.specs.declared.kind.ArgKind.{ArgKind}
use Rattle.awk_expr.specs.declared.kind.ArgKind.TheVariants as kind
use Rattle.awk_expr.specs.declared.fixed.FixedArg.{FixedArg}
use Rattle.awk_expr.specs.declared.fixed.FixedArg.TheVariants.{Place, Count, Truth, Text, Texts}
use Rattle.awk_expr.specs.declared.fixed.FixedArg.TheVariants.{Wholes}

-- what is there is so
abbrev pub May : {A : Type 0} → (A → Type 0) → Option A → Type 0
May P None = Unit {0}
May P (Some a) = P a

may-map : {A B : Type 0} (P : B → Type 0) (f : A → B) → ((a : A) → P (f a)) → (o : Option A)
    → May P (option_map f o)
may-map P f h None = tt
may-map P f h (Some a) = h a

pub may-map-of : {A B : Type 0} (P : A → Type 0) (Q : B → Type 0) (f : A → B)
    → ((a : A) → P a → Q (f a)) → (o : Option A) → May P o → May Q (option_map f o)
may-map-of P Q f h None k = tt
may-map-of P Q f h (Some a) k = h a k

pub may-then : {A B : Type 0} (Q : B → Type 0) (g : A → Option B) → ((a : A) → May Q (g a))
    → (o : Option A) → May Q (option_and_then g o)
may-then Q g h None = tt
may-then Q g h (Some a) = h a

may-then-of : {A B : Type 0} (P : A → Type 0) (Q : B → Type 0) (g : A → Option B)
    → ((a : A) → P a → May Q (g a)) → (o : Option A) → May P o → May Q (option_and_then g o)
may-then-of P Q g h None k = tt
may-then-of P Q g h (Some a) k = h a k

pub may-if : {A : Type 0} (P : A → Type 0) (a : A) (b : Bool) → (b ≡ true → P a)
    → May P (cond b (Some a) None)
may-if P a true h = h refl
may-if P a false h = tt

-- ---- arguments that are no expressions

abbrev IsKind : ArgKind → FixedArg → Type 0
IsKind k f = is_of_kind k f ≡ true

not_zero-is : (z : ℤ) → May (λ y. is_some (not_zero y) ≡ true) (not_zero z)
not_zero-is (pos zero) = tt
not_zero-is (pos (suc n)) = refl
not_zero-is (negsuc n) = refl

some_count-is : (n : ℕ) → May (λ m. is_some (some_count m) ≡ true) (some_count n)
some_count-is zero = tt
some_count-is (suc n) = refl

bound-is : (d : Data) → May (IsKind kind.Bound) (bound_in d)
bound-is null = refl
bound-is (boolean b) = may-map (IsKind kind.Bound) Place (λ z. refl) (i64_in (boolean b))
bound-is (number n) = may-map (IsKind kind.Bound) Place (λ z. refl) (i64_in (number n))
bound-is (string s) = may-map (IsKind kind.Bound) Place (λ z. refl) (i64_in (string s))
bound-is (array ds) = may-map (IsKind kind.Bound) Place (λ z. refl) (i64_in (array ds))
bound-is (object ms) = may-map (IsKind kind.Bound) Place (λ z. refl) (i64_in (object ms))

distinct-is : (ns : List Name) → May (λ ms. are_distinct ms ≡ true) (if_distinct ns)
distinct-is ns = may-if (λ ms. are_distinct ms ≡ true) ns (are_distinct ns) (λ e. e)

primitive-is : (name : Name) → May (λ n. is_among n primitives ≡ true) (primitive_name name)
primitive-is name =
    may-if (λ n. is_among n primitives ≡ true) name (is_among name primitives) (λ e. e)

whole-is : (z : ℤ) → May (λ y. is_whole y ≡ true) (if_whole z)
whole-is z = may-if (λ y. is_whole y ≡ true) z (is_whole z) (λ e. e)

whole_in-is : (n : Num) → May (λ z. is_whole z ≡ true) (whole_in n)
whole_in-is n = may-then (λ z. is_whole z ≡ true) if_whole whole-is (as_integer n)

whole_of-is : (d : Data) → May (λ z. is_whole z ≡ true) (whole_of d)
whole_of-is d = may-then (λ z. is_whole z ≡ true) whole_in whole_in-is (as_number d)

abbrev AreWhole : List ℤ → Type 0
AreWhole zs = list_all is_whole zs ≡ true

wholes-are : (ds : List Data) → May AreWhole (all_of whole_of ds)
wholes-are [] = refl
wholes-are (d ∷ ds) =
    may-then-of (λ z. is_whole z ≡ true) AreWhole
    (λ z. option_map (λ zs. z ∷ zs) (all_of whole_of ds)) (λ z h.
    may-map-of AreWhole AreWhole (λ zs. z ∷ zs) (λ zs k. rw (h, k) refl) (all_of whole_of ds)
    (wholes-are ds))
    (whole_of d) (whole_of-is d)

abbrev AreGiven : List ℤ → Type 0
AreGiven zs = (are_edges zs && list_all is_whole zs) ≡ true

edges-are : (zs : List ℤ) → AreWhole zs → May AreGiven (if_edges zs)
edges-are zs h = may-if AreGiven zs (are_edges zs) (λ e. rw (e, h) refl)

edges_in-are : (d : Data) → May AreGiven (edges_in d)
edges_in-are d =
    may-then-of AreWhole AreGiven if_edges edges-are
    (option_and_then (all_of whole_of) (items_in d))
    (may-then AreWhole (all_of whole_of) wholes-are (items_in d))

fixed-is : (k : ArgKind) (d : Data) → May (IsKind k) (fixed_of k d)
fixed-is kind.Place d = may-map (IsKind kind.Place) Place (λ z. refl) (i64_in d)
fixed-is kind.Bound d = bound-is d
fixed-is kind.Step d =
    may-map-of (λ z. is_some (not_zero z) ≡ true) (IsKind kind.Step) Place (λ z h. h) (step_in d)
    (may-then (λ z. is_some (not_zero z) ≡ true) not_zero not_zero-is (i64_in d))
fixed-is kind.Count d = may-map (IsKind kind.Count) Count (λ n. refl) (u64_in d)
fixed-is kind.SomeCount d =
    may-map-of (λ n. is_some (some_count n) ≡ true) (IsKind kind.SomeCount) Count (λ n h. h)
    (some_count_in d)
    (may-then (λ n. is_some (some_count n) ≡ true) some_count some_count-is (u64_in d))
fixed-is kind.Truth d = may-map (IsKind kind.Truth) Truth (λ b. refl) (as_bool d)
fixed-is kind.Text d = may-map (IsKind kind.Text) Text (λ s. refl) (as_str d)
fixed-is kind.Texts d =
    may-map-of (λ ns. are_distinct ns ≡ true) (IsKind kind.Texts) Texts (λ ns h. h) (texts_in d)
    (may-then (λ ns. are_distinct ns ≡ true) if_distinct distinct-is
    (option_and_then (all_of as_str) (items_in d)))
fixed-is kind.Primitive d =
    may-map-of (λ n. is_among n primitives ≡ true) (IsKind kind.Primitive) Text (λ n h. h)
    (primitive_in d)
    (may-then (λ n. is_among n primitives ≡ true) primitive_name primitive-is (as_str d))
fixed-is kind.Edges d =
    may-map-of AreGiven (IsKind kind.Edges) Wholes (λ zs h. h) (edges_in d) (edges_in-are d)
fixed-is kind.Expr d = tt
fixed-is kind.Exprs d = tt
fixed-is kind.NamedExprs d = tt

-- ---- arguments

abbrev Is : ArgKind → Args → Type 0
Is k a = IsArgument k (length a.exprs) a.fixed

some-is : (ds : List Data) → May (Is kind.Exprs) (some_exprs ds)
some-is [] = tt
some-is (d ∷ ds) = (omega arith, refl)

names-is : (ns : List Name) (ds : List Data) → length ds ≡ length ns
    → May (Is kind.NamedExprs) (names_and_exprs ns ds)
names-is [] ds e = tt
names-is (n ∷ ns) ds e = by (are_distinct (n ∷ ns)) refl
  where
    by : (b : Bool) → are_distinct (n ∷ ns) ≡ b
        → May (Is kind.NamedExprs)
        (option_map
        (λ names. let a : Args = record { exprs = ds; fixed = Texts names ∷ [] } in a)
        (cond b (Some (n ∷ ns)) None))
    by true h =
        record { names = n ∷ ns; alone = refl; as_many = e; some = omega arith; distinct = h }
    by false h = tt

named-is : (ds : List Data) → May (Is kind.NamedExprs) (named_exprs ds)
named-is ds =
    may-then (Is kind.NamedExprs) (λ ps. names_and_exprs (map (λ p. p.0) ps) (map (λ p. p.1) ps))
    (λ ps. names-is (map (λ p. p.0) ps) (map (λ p. p.1) ps)
    (length-map ps (λ p. p.1) ∙ sym (length-map ps (λ p. p.0))))
    (all_of pair_in ds)

fixed-part : (k : ArgKind) (d : Data)
    → May (λ a. IsFixed k (length a.exprs) a.fixed) (option_map of_fixed (fixed_of k d))
fixed-part k d =
    may-map-of (IsKind k) (λ a. IsFixed k (length a.exprs) a.fixed) of_fixed
    (λ f h. record { arg = f; alone = refl; no_exprs = refl; of_kind = h })
    (fixed_of k d) (fixed-is k d)

part-is : (k : ArgKind) (d : Data) → May (Is k) (part_of k d)
part-is kind.Expr d = (refl, refl)
part-is kind.Exprs d = may-then (Is kind.Exprs) some_exprs some-is (items_in d)
part-is kind.NamedExprs d = may-then (Is kind.NamedExprs) named_exprs named-is (items_in d)
part-is kind.Place d = fixed-part kind.Place d
part-is kind.Bound d = fixed-part kind.Bound d
part-is kind.Step d = fixed-part kind.Step d
part-is kind.Count d = fixed-part kind.Count d
part-is kind.SomeCount d = fixed-part kind.SomeCount d
part-is kind.Truth d = fixed-part kind.Truth d
part-is kind.Text d = fixed-part kind.Text d
part-is kind.Texts d = fixed-part kind.Texts d
part-is kind.Primitive d = fixed-part kind.Primitive d
part-is kind.Edges d = fixed-part kind.Edges d

abbrev Are : List ArgKind → Args → Type 0
Are ks a = AreArguments ks (length a.exprs) a.fixed

args-are : (ks : List ArgKind) (ds : List Data) → May (Are ks) (args_of ks ds)
args-are [] [] = (refl, refl)
args-are [] (d ∷ ds) = tt
args-are (k ∷ ks) [] = tt
args-are (k ∷ ks) (d ∷ ds) =
    may-then-of (Is k) (Are (k ∷ ks)) (λ a. option_map (both a) (args_of ks ds)) (λ a h.
    may-map-of (Are ks) (Are (k ∷ ks)) (both a) (λ b l. record {
      here = length a.exprs;
      later = length b.exprs;
      first = a.fixed;
      others = b.fixed;
      exprs = length-append a.exprs b.exprs;
      parts = refl;
      is = h;
      are = l;
    }) (args_of ks ds) (args-are ks ds))
    (part_of k d) (part-is k d)

-- ---- heads

abbrev IsHead : Head → Type 0
IsHead (var n) = Unit {0}
IsHead (whole z) = is_whole z ≡ true
IsHead (truth b) = Unit {0}
IsHead (call op args) = HasArguments op (length args.exprs) args.fixed

row-is : (name : Name) (count : ℕ) (ds : List Data) (found : Option Found)
    → row_of name count ≡ found → May IsHead (option_and_then (call_head ds) found)
row-is name count ds None e = tt
row-is name count ds (Some found) e =
    may-map-of (Are found.1) IsHead (call found.0)
    (λ a h. record { name = name; count = count; kinds = found.1; row = e; are = h })
    (args_of found.1 ds) (args-are found.1 ds)

list-is : (ds : List Data) → May IsHead (list_head ds)
list-is [] = tt
list-is (d ∷ ds) = by (as_str d)
  where
    by : (o : Option Name)
        → May IsHead
        (option_and_then (call_head ds) (option_and_then (λ name. row_of name (length ds)) o))
    by None = tt
    by (Some name) = row-is name (length ds) ds (row_of name (length ds)) refl

head-is : (d : Data) → May IsHead (head_of d)
head-is null = tt
head-is (boolean b) = tt
head-is (number n) =
    may-map-of (λ z. is_whole z ≡ true) IsHead whole (λ z h. h) (whole_in n)
    (whole_in-is n)
head-is (string s) = tt
head-is (array ds) = list-is (item_list ds)
head-is (object ms) = tt

-- ---- expressions

-- as many as there are values, and each is allowed
record AreRead (ds : List Data) (es : List ExprTree) : Type 0 where
  as_many : length es ≡ length ds
  allowed : AreAllowed (exprs_from es)

all-are : (f : Data → Option ExprTree) → ((d : Data) → May IsAllowed (f d)) → (ds : List Data)
    → May (AreRead ds) (all_of f ds)
all-are f h [] = record { as_many = refl; allowed = tt }
all-are f h (d ∷ ds) =
    may-then-of IsAllowed (AreRead (d ∷ ds)) (λ e. option_map (λ es. e ∷ es) (all_of f ds)) (λ e k.
    may-map-of (AreRead ds) (AreRead (d ∷ ds)) (λ es. e ∷ es)
    (λ es l. record { as_many = ap suc l.as_many; allowed = (k, l.allowed) }) (all_of f ds)
    (all-are f h ds))
    (f d) (h d)

pub expr_list-from : (es : List ExprTree) → expr_list (exprs_from es) ≡ es
expr_list-from [] = refl
expr_list-from (e ∷ es) = ap (λ more. e ∷ more) (expr_list-from es)

with-is : (f : Data → Option ExprTree) → ((d : Data) → May IsAllowed (f d)) → (h : Head) → IsHead h
    → May IsAllowed (expr_with f h)
with-is f h (var n) k = tt
with-is f h (whole z) k = k
with-is f h (truth b) k = tt
with-is f h (call op args) k =
    may-map-of (AreRead args.exprs) IsAllowed (λ es. tree.call op (exprs_from es) args.fixed)
    (λ es l. (
      subst (λ n. HasArguments op n args.fixed)
          (sym (ap length (expr_list-from es) ∙ l.as_many)) k,
      l.allowed,
    ))
    (all_of f args.exprs) (all-are f h args.exprs)

down-is : (n : ℕ) (d : Data) → May IsAllowed (expr_down n d)
down-is zero d = tt
down-is (suc n) d =
    may-then-of IsHead IsAllowed (expr_with (expr_down n)) (with-is (expr_down n) (down-is n))
    (head_of d) (head-is d)

-- the expression that a value is is allowed
pub said-is : (d : Data) → May IsAllowed (expr_said d)
unfolding expr_said
said-is d = down-is (suc (depth d)) d
