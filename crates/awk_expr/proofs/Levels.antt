-- How deep the values of a call nest, and that an expression has no more levels than its value.
use Rattle.std.proofs.Common.{◌≡◌, ◌≤◌, ◌<◌, ℕ, ℤ, zero, suc, max, List, [], ◌∷◌, ◌++◌, map, length}
use Rattle.std.proofs.Common.{Option, Some, None, option_map, option_and_then, refl, ap, ◌∙◌, arith}
use Rattle.serde_json.specs.Data.{Data, null, boolean, number, string, array, object, Items}
use Rattle.serde_json.specs.Data.{no_items, item, depth, items_depth}
use Rattle.serde_json.specs.Find.{as_str}
use Rattle.awk_types.specs.DataType.{Name}
use Rattle.awk_expr.specs.Operations.{Found, row_of}
use Rattle.awk_expr.specs.declared.op.Op.{Op}
use Rattle.awk_expr.specs.declared.kind.ArgKind.{ArgKind}
use Rattle.awk_expr.specs.declared.kind.ArgKind.TheVariants as kind
use Rattle.awk_expr.specs.declared.fixed.FixedArg.{FixedArg}
use Rattle.awk_expr.specs.declared.fixed.FixedArg.TheVariants.{Texts}
use Rattle.awk_expr.specs.Arguments.{Args, both, of_fixed, item_list, items_in, all_of, pair_in}
use Rattle.awk_expr.specs.Arguments.{some_exprs, names_and_exprs, named_exprs, if_distinct}
use Rattle.awk_expr.specs.Arguments.{fixed_of, part_of, args_of}
use Rattle.awk_expr.specs.ExprTree as tree
use Rattle.awk_expr.specs.ExprTree.{ExprTree}
use Rattle.awk_expr.specs.Reading.{Head, var, whole, truth, call, call_head, list_head, head_of}
use Rattle.awk_expr.specs.Reading.{expr_with, expr_down, expr_said}
use Rattle.awk_expr.specs.WholeNumbers.{whole_in}

-- one more than the greatest depth, or 0
abbrev pub levels : List Data → ℕ
levels [] = 0
levels (d ∷ ds) = max (suc (depth d)) (levels ds)

levels-append : (n : ℕ) (xs ys : List Data) → levels xs ≤ n → levels ys ≤ n → levels (xs ++ ys) ≤ n
levels-append n [] ys h k = k
levels-append n (x ∷ xs) ys h k = omega (arith, levels-append n xs ys (omega (arith, h)) k, h)

pub levels-items : (ds : Items) → levels (item_list ds) ≤ suc (items_depth ds)
levels-items no_items = omega arith
levels-items (item d ds) = omega (arith, levels-items ds)

-- ---- the expressions of a call

abbrev Shallow : ℕ → Option Args → Type 0
Shallow n None = Unit {0}
Shallow n (Some a) = levels a.exprs ≤ n

fixed-shallow : (n : ℕ) (o : Option FixedArg) → Shallow n (option_map of_fixed o)
fixed-shallow n None = tt
fixed-shallow n (Some a) = omega arith

some-shallow : (ds : List Data) → Shallow (levels ds) (some_exprs ds)
some-shallow [] = tt
some-shallow (d ∷ ds) = omega arith

wider : (n m : ℕ) (o : Option Args) → Shallow n o → n ≤ m → Shallow m o
wider n m None h le = tt
wider n m (Some a) h le = omega (arith, h, le)

abbrev PairShallow : ℕ → Option (Name × Data) → Type 0
PairShallow n None = Unit {0}
PairShallow n (Some p) = suc (depth p.1) ≤ n

second-shallow : (n : ℕ) (d : Data) (o : Option (List ℕ)) → suc (depth d) ≤ n
    → PairShallow n (option_map (λ s. let p : Name × Data = (s, d) in p) o)
second-shallow n d None h = tt
second-shallow n d (Some s) h = h

pair-shallow : (d : Data) → PairShallow (depth d) (pair_in d)
pair-shallow null = tt
pair-shallow (boolean b) = tt
pair-shallow (number n) = tt
pair-shallow (string s) = tt
pair-shallow (object ms) = tt
pair-shallow (array no_items) = tt
pair-shallow (array (item n no_items)) = tt
pair-shallow (array (item n (item d no_items))) = second-shallow _ d (as_str n) (omega arith)
pair-shallow (array (item n (item d (item e ds)))) = tt

abbrev PairsShallow : ℕ → Option (List (Name × Data)) → Type 0
PairsShallow n None = Unit {0}
PairsShallow n (Some ps) = levels (map (λ p. p.1) ps) ≤ n

pairs_join : (n m : ℕ) (o : Option (Name × Data)) (os : Option (List (Name × Data)))
    → PairShallow n o → PairsShallow m os
    → PairsShallow (max n m) (option_and_then (λ p. option_map (λ ps. p ∷ ps) os) o)
pairs_join n m None os h k = tt
pairs_join n m (Some p) None h k = tt
pairs_join n m (Some p) (Some ps) h k = omega (arith, h, k)

pairs_wider : (n m : ℕ) (o : Option (List (Name × Data))) → PairsShallow n o → n ≤ m
    → PairsShallow m o
pairs_wider n m None h le = tt
pairs_wider n m (Some ps) h le = omega (arith, h, le)

pairs-shallow : (ds : List Data) → PairsShallow (levels ds) (all_of pair_in ds)
pairs-shallow [] = omega arith
pairs-shallow (d ∷ ds) =
    pairs_wider _ _ _
    (pairs_join (depth d) (levels ds) (pair_in d) (all_of pair_in ds) (pair-shallow d)
    (pairs-shallow ds)) (omega arith)

names-shallow : (n : ℕ) (names : List Name) (ds : List Data) → levels ds ≤ n
    → Shallow n (names_and_exprs names ds)
names-shallow n [] ds h = tt
names-shallow n (m ∷ ms) ds h = by (if_distinct (m ∷ ms))
  where
    by : (o : Option (List Name))
        → Shallow n
        (option_map
        (λ names. let a : Args = record { exprs = ds; fixed = Texts names ∷ [] } in a) o)
    by None = tt
    by (Some names) = h

named-shallow : (ds : List Data) → Shallow (levels ds) (named_exprs ds)
named-shallow ds = by (all_of pair_in ds) (pairs-shallow ds)
  where
    by : (o : Option (List (Name × Data))) → PairsShallow (levels ds) o
        → Shallow (levels ds)
        (option_and_then (λ ps. names_and_exprs (map (λ p. p.0) ps) (map (λ p. p.1) ps)) o)
    by None h = tt
    by (Some ps) h = names-shallow (levels ds) (map (λ p. p.0) ps) (map (λ p. p.1) ps) h

in_list : (f : List Data → Option Args) → ((ds : List Data) → Shallow (levels ds) (f ds))
    → (d : Data) → Shallow (suc (depth d)) (option_and_then f (items_in d))
in_list f h null = tt
in_list f h (boolean b) = tt
in_list f h (number n) = tt
in_list f h (string s) = tt
in_list f h (object ms) = tt
in_list f h (array ds) =
    wider _ _ (f (item_list ds)) (h (item_list ds)) (omega (arith, levels-items ds))

part-shallow : (k : ArgKind) (d : Data) → Shallow (suc (depth d)) (part_of k d)
part-shallow kind.Expr d = omega arith
part-shallow kind.Exprs d = in_list some_exprs some-shallow d
part-shallow kind.NamedExprs d = in_list named_exprs named-shallow d
part-shallow kind.Place d = fixed-shallow _ (fixed_of kind.Place d)
part-shallow kind.Bound d = fixed-shallow _ (fixed_of kind.Bound d)
part-shallow kind.Step d = fixed-shallow _ (fixed_of kind.Step d)
part-shallow kind.Count d = fixed-shallow _ (fixed_of kind.Count d)
part-shallow kind.SomeCount d = fixed-shallow _ (fixed_of kind.SomeCount d)
part-shallow kind.Truth d = fixed-shallow _ (fixed_of kind.Truth d)
part-shallow kind.Text d = fixed-shallow _ (fixed_of kind.Text d)
part-shallow kind.Texts d = fixed-shallow _ (fixed_of kind.Texts d)
part-shallow kind.Primitive d = fixed-shallow _ (fixed_of kind.Primitive d)
part-shallow kind.Edges d = fixed-shallow _ (fixed_of kind.Edges d)

join : (n m k : ℕ) (o p : Option Args) → Shallow n o → Shallow m p → n ≤ k → m ≤ k
    → Shallow k (option_and_then (λ a. option_map (both a) p) o)
join n m k None p h g le le' = tt
join n m k (Some a) None h g le le' = tt
join n m k (Some a) (Some b) h g le le' =
    levels-append k a.exprs b.exprs (omega (arith, h, le)) (omega (arith, g, le'))

args-shallow : (ks : List ArgKind) (ds : List Data) → Shallow (levels ds) (args_of ks ds)
args-shallow [] [] = omega arith
args-shallow [] (d ∷ ds) = tt
args-shallow (k ∷ ks) [] = tt
args-shallow (k ∷ ks) (d ∷ ds) =
    join _ _ _ (part_of k d) (args_of ks ds) (part-shallow k d) (args-shallow ks ds) (omega arith)
    (omega arith)

-- ---- an expression, by its head

abbrev pub HeadShallow : ℕ → Option Head → Type 0
HeadShallow n None = Unit {0}
HeadShallow n (Some (var m)) = Unit {0}
HeadShallow n (Some (whole z)) = Unit {0}
HeadShallow n (Some (truth b)) = Unit {0}
HeadShallow n (Some (call op args)) = levels args.exprs ≤ n

call-shallow : (n : ℕ) (op : Op) (o : Option Args) → Shallow n o
    → HeadShallow n (option_map (call op) o)
call-shallow n op None h = tt
call-shallow n op (Some a) h = h

pub list-shallow : (n : ℕ) (ds : List Data) → levels ds ≤ n → HeadShallow n (list_head ds)
list-shallow n [] h = tt
list-shallow n (d ∷ ds) h = by (option_and_then (λ name. row_of name (length ds)) (as_str d))
  where
    by : (o : Option Found) → HeadShallow n (option_and_then (call_head ds) o)
    by None = tt
    by (Some found) =
        call-shallow n found.0 (args_of found.1 ds)
        (wider _ _ _ (args-shallow found.1 ds) (omega (arith, h)))

head-shallow : (d : Data) → HeadShallow (depth d) (head_of d)
head-shallow null = tt
head-shallow (boolean b) = tt
head-shallow (number n) = by (whole_in n)
  where
    by : (o : Option ℤ) → HeadShallow 0 (option_map whole o)
    by None = tt
    by (Some z) = tt
head-shallow (string s) = tt
head-shallow (object ms) = tt
head-shallow (array ds) = list-shallow _ (item_list ds) (levels-items ds)

all_of-same : (f g : Data → Option ExprTree) (n : ℕ) → ((d : Data) → depth d < n → f d ≡ g d)
    → (ds : List Data) → levels ds ≤ n → all_of f ds ≡ all_of g ds
all_of-same f g n same [] h = refl
all_of-same f g n same (d ∷ ds) h =
    ap (λ o. option_and_then (λ b. option_map (λ bs. b ∷ bs) (all_of f ds)) o)
    (same d (omega (arith, h)))
    ∙ ap (λ os. option_and_then (λ b. option_map (λ bs. b ∷ bs) os) (g d))
    (all_of-same f g n same ds (omega (arith, h)))

with-same : (f g : Data → Option ExprTree) (n : ℕ) → ((d : Data) → depth d < n → f d ≡ g d)
    → (o : Option Head) → HeadShallow n o
    → option_and_then (expr_with f) o ≡ option_and_then (expr_with g) o
with-same f g n same None h = refl
with-same f g n same (Some (var m)) h = refl
with-same f g n same (Some (whole z)) h = refl
with-same f g n same (Some (truth b)) h = refl
with-same f g n same (Some (call op args)) h =
    ap (λ o. option_map (λ es. tree.call op (tree.exprs_from es) args.fixed) o)
    (all_of-same f g n same args.exprs h)

down-same : (n m : ℕ) (d : Data) → depth d < n → depth d < m → expr_down n d ≡ expr_down m d
down-same zero m d h k = absurd (omega (arith, h))
down-same (suc n) zero d h k = absurd (omega (arith, k))
down-same (suc n) (suc m) d h k =
    with-same (expr_down n) (expr_down m) (depth d)
    (λ e l. down-same n m e (omega (arith, l, h)) (omega (arith, l, k))) (head_of d)
    (head-shallow d)

-- an expression is its head, with the expressions of its call
pub expr_said-head : (d : Data) → expr_said d ≡ option_and_then (expr_with expr_said) (head_of d)
unfolding expr_said
expr_said-head d =
    with-same (expr_down (depth d)) (λ e. expr_down (suc (depth e)) e) (depth d)
    (λ e l. down-same (depth d) (suc (depth e)) e l (omega arith)) (head_of d) (head-shallow d)
