-- Examples of every operation: a call that is read, and calls that are not, since an argument is
-- missing, one too many, or one of them is no such argument.
use Rattle.std.proofs.Common.{◌≡◌, ℕ, ℤ, pos, negsuc, Bool, true, List, [], ◌∷◌, ◌++◌, map, codes}
use Rattle.std.proofs.Common.{Option, Some, refl}
use Rattle.std.specs.Prelude.{is_none}
use Rattle.std.specs.List.{list_all}
use Rattle.serde_json.specs.Data.{Data, Items, no_items, item, null, boolean, number, string, array}
use Rattle.serde_json.specs.Data.{unsigned, negative}
use Rattle.awk_types.specs.DataType.{Name}
use Rattle.awk_expr.specs.ExprTree.{ExprTree, ExprTrees, var, whole, call, exprs_from}
use Rattle.awk_expr.specs.Operations.{row_of}
use Rattle.awk_expr.specs.Reading.{expr_said}
use Rattle.awk_expr.specs.declared.op.Op.TheVariants as op
use Rattle.awk_expr.specs.declared.op.PlaceOp.TheVariants as place_op
use Rattle.awk_expr.specs.declared.op.PairOp.TheVariants as pair_op
use Rattle.awk_expr.specs.declared.op.AxisOp.TheVariants as axis_op
use Rattle.awk_expr.specs.declared.op.LogicOp.TheVariants as logic_op
use Rattle.awk_expr.specs.declared.op.SingleOp.TheVariants as single_op
use Rattle.awk_expr.specs.declared.op.ReduceOp.TheVariants as reduce_op
use Rattle.awk_expr.specs.declared.op.Target.TheVariants as target
use Rattle.awk_expr.specs.declared.op.Extent.TheVariants as extent
use Rattle.awk_kernels.specs.declared.operation.Arith.TheVariants as arith
use Rattle.awk_kernels.specs.declared.operation.Compare.TheVariants as compare
use Rattle.awk_expr.specs.declared.fixed.FixedArg.{FixedArg}
use Rattle.awk_expr.specs.declared.fixed.FixedArg.TheVariants.{Place, Count, Missing, Truth, Text}
use Rattle.awk_expr.specs.declared.fixed.FixedArg.TheVariants.{Texts, Wholes}

-- ---- arguments

-- one that is read, and some that are not at its place
record Sample : Type 0 where
  good : Data
  bad : List Data

abbrev items_of : List Data → Items
items_of [] = no_items
items_of (d ∷ ds) = item d (items_of ds)

abbrev list_of : List Data → Data
list_of ds = array (items_of ds)

abbrev text : List ℕ → Data
text t = string t

abbrev nat : ℕ → Data
nat n = number (unsigned n)

abbrev minus : ℤ → Data
minus z = number (negative z)

abbrev pair : List ℕ → Data → Data
pair n d = list_of (text n ∷ d ∷ [])

abbrev an_expr : Sample
an_expr = record { good = text (codes "x"); bad = null ∷ list_of [] ∷ [] }

abbrev exprs : Sample
exprs = record {
  good = list_of (text (codes "x") ∷ nat 7 ∷ []);
  bad = text (codes "x") ∷ list_of [] ∷ list_of (text (codes "x") ∷ null ∷ []) ∷ [];
}

abbrev named_exprs : Sample
named_exprs = record {
  good = list_of (pair (codes "y") (text (codes "x")) ∷ pair (codes "x") (nat 7) ∷ []);
  bad =
      list_of []
      ∷ text (codes "x")
      ∷ list_of (list_of (text (codes "y") ∷ []) ∷ [])
      ∷ list_of (list_of (nat 1 ∷ text (codes "x") ∷ []) ∷ [])
      ∷ list_of (list_of (text (codes "y") ∷ nat 7 ∷ nat 7 ∷ []) ∷ [])
      ∷ list_of (pair (codes "y") (nat 7) ∷ pair (codes "y") (nat 7) ∷ [])
      ∷ [];
}

-- a place fits i64
abbrev a_place : Sample
a_place = record { good = nat 1; bad = nat 9223372036854775808 ∷ null ∷ boolean true ∷ [] }

abbrev a_bound : Sample
a_bound = record { good = null; bad = nat 9223372036854775808 ∷ boolean true ∷ [] }

abbrev a_step : Sample
a_step = record { good = minus (negsuc 0); bad = nat 0 ∷ nat 9223372036854775808 ∷ null ∷ [] }

abbrev a_count : Sample
a_count = record { good = nat 0; bad = minus (negsuc 0) ∷ null ∷ boolean true ∷ [] }

abbrev a_number : Sample
a_number = record { good = nat 1; bad = nat 0 ∷ minus (negsuc 0) ∷ null ∷ [] }

abbrev a_truth : Sample
a_truth = record { good = boolean true; bad = nat 1 ∷ null ∷ text (codes "true") ∷ [] }

abbrev a_name : Sample
a_name = record { good = text (codes "y"); bad = nat 1 ∷ list_of (text (codes "y") ∷ []) ∷ [] }

abbrev names : Sample
names = record {
  good = list_of (text (codes "y") ∷ text (codes "x") ∷ []);
  bad = text (codes "y") ∷ list_of (nat 1 ∷ []) ∷ list_of
      (text (codes "y") ∷ text (codes "y") ∷ []) ∷ [];
}

abbrev a_primitive : Sample
a_primitive =
    record {
      good = text (codes "int8");
      bad =
          text (codes "int") ∷ text (codes "float64") ∷ nat 8 ∷ [];
    }

-- at least two that rise, each kept as u64 or i64
abbrev some_edges : Sample
some_edges = record {
  good = list_of (minus (negsuc 0) ∷ nat 0 ∷ nat 18446744073709551615 ∷ []);
  bad =
      list_of []
      ∷ list_of (nat 1 ∷ [])
      ∷ list_of (nat 1 ∷ nat 1 ∷ [])
      ∷ list_of (nat 1 ∷ nat 3 ∷ nat 2 ∷ [])
      ∷ list_of (nat 1 ∷ null ∷ [])
      ∷ nat 1
      ∷ [];
}

-- ---- calls

abbrev goods : List Sample → List Data
goods samples = map (λ s. s.good) samples

-- the arguments with one of them changed to a bad one
abbrev spoiled : List Sample → List (List Data)
spoiled [] = []
spoiled (s ∷ more) = map (λ b. b ∷ goods more) s.bad ++ map (λ ds. s.good ∷ ds) (spoiled more)

abbrev without_last : List Data → List Data
without_last [] = []
without_last (d ∷ []) = []
without_last (d ∷ e ∷ ds) = d ∷ without_last (e ∷ ds)

-- a name, the arguments, and the expression that the call is
abbrev Example : Type 0
Example = Name × List Sample × ExprTree

abbrev said : Name → List Data → Option ExprTree
said name args = expr_said (list_of (text name ∷ args))

abbrev refused : Example → List (List Data)
refused e = without_last (goods e.1) ∷ (goods e.1 ++ text (codes "x") ∷ []) ∷ spoiled e.1

abbrev are_refused : Example → Bool
are_refused e = list_all (λ args. is_none (said e.0 args)) (refused e)

abbrev x : ExprTree
x = var (codes "x")

abbrev x1 : ExprTrees
x1 = exprs_from (x ∷ [])

abbrev x2 : ExprTrees
x2 = exprs_from (x ∷ x ∷ [])

abbrev x3 : ExprTrees
x3 = exprs_from (x ∷ x ∷ x ∷ [])

abbrev both : ExprTrees
both = exprs_from (x ∷ whole (pos 7) ∷ [])

abbrev one : FixedArg
one = Place (pos 1)

abbrev none : FixedArg
none = Count 0

abbrev first : FixedArg
first = Count 1

abbrev yes : FixedArg
yes = Truth true

abbrev y : FixedArg
y = Text (codes "y")

abbrev y_and_x : FixedArg
y_and_x = Texts (codes "y" ∷ codes "x" ∷ [])

abbrev int8 : FixedArg
int8 = Text (codes "int8")

abbrev edges : FixedArg
edges = Wholes (negsuc 0 ∷ pos 0 ∷ pos 18446744073709551615 ∷ [])

abbrev examples : List Example
examples =
    (codes "at", an_expr ∷ a_place ∷ [], call (op.Place place_op.At) x1 (one ∷ [])) ∷
    (codes "range", an_expr ∷ a_bound ∷ a_bound ∷ [], call op.Range x1 (Missing ∷ Missing ∷ [])) ∷
    (codes "field", an_expr ∷ a_name ∷ [], call op.Field x1 (y ∷ [])) ∷
    (codes "fields", an_expr ∷ names ∷ [], call op.Fields x1 (y_and_x ∷ [])) ∷
    (codes "without_field", an_expr ∷ a_name ∷ [], call op.WithoutField x1 (y ∷ [])) ∷
    (codes "at_each", an_expr ∷ a_place ∷ [], call (op.Place place_op.AtEach) x1 (one ∷ [])) ∷
    (codes "pick", an_expr ∷ an_expr ∷ [], call (op.Pair pair_op.Pick) x2 []) ∷
    (codes "num", an_expr ∷ a_place ∷ [], call (op.Axis axis_op.Num) x1 (one ∷ [])) ∷
    (codes "flatten", an_expr ∷ a_place ∷ [], call (op.Axis axis_op.Flatten) x1 (one ∷ [])) ∷
    (codes "local_index", an_expr ∷ a_place ∷ [], call (op.Axis axis_op.LocalIndex) x1 (one ∷ [])) ∷
    (codes "unflatten", an_expr ∷ an_expr ∷ [], call (op.Pair pair_op.Unflatten) x2 []) ∷
    (codes "run_lengths", an_expr ∷ [], call op.RunLengths x1 []) ∷
    (codes "zip", a_number ∷ named_exprs ∷ [], call op.Zip both (first ∷ y_and_x ∷ [])) ∷
    (codes "tuple", a_number ∷ exprs ∷ [], call op.Tuple both (first ∷ [])) ∷
    (codes "with_field", an_expr ∷ a_name ∷ an_expr ∷ [], call op.WithField x2 (y ∷ [])) ∷
    (codes "is_none", an_expr ∷ a_place ∷ [], call (op.Axis axis_op.IsNone) x1 (one ∷ [])) ∷
    (codes "fill_none", an_expr ∷ an_expr ∷ a_place ∷ [], call op.FillNone x2 (one ∷ [])) ∷
    (codes "drop_none", an_expr ∷ a_place ∷ [], call (op.Axis axis_op.DropNone) x1 (one ∷ [])) ∷
    (codes "firsts", an_expr ∷ a_place ∷ [], call (op.Axis axis_op.Firsts) x1 (one ∷ [])) ∷
    (codes "singletons", an_expr ∷ a_place ∷ [], call (op.Axis axis_op.Singletons) x1 (one ∷ []))
    ∷ (
      codes "pad_none",
      an_expr ∷ a_count ∷ a_place ∷ a_truth ∷ [],
      call op.PadNone x1 (none ∷ one ∷ yes ∷ []),
    ) ∷
    (codes "put_mask", an_expr ∷ an_expr ∷ a_truth ∷ [], call op.PutMask x2 (yes ∷ [])) ∷
    (codes "concatenate", a_place ∷ exprs ∷ [], call op.Concatenate both (one ∷ [])) ∷
    (codes "add", an_expr ∷ an_expr ∷ [], call (op.Calculate arith.Add) x2 []) ∷
    (codes "sub", an_expr ∷ an_expr ∷ [], call (op.Calculate arith.Sub) x2 []) ∷
    (codes "mul", an_expr ∷ an_expr ∷ [], call (op.Calculate arith.Mul) x2 []) ∷
    (codes "floor_div", an_expr ∷ an_expr ∷ [], call (op.Calculate arith.FloorDiv) x2 []) ∷
    (codes "rem", an_expr ∷ an_expr ∷ [], call (op.Calculate arith.Rem) x2 []) ∷
    (codes "eq", an_expr ∷ an_expr ∷ [], call (op.Test compare.Eq) x2 []) ∷
    (codes "ne", an_expr ∷ an_expr ∷ [], call (op.Test compare.Ne) x2 []) ∷
    (codes "lt", an_expr ∷ an_expr ∷ [], call (op.Test compare.Lt) x2 []) ∷
    (codes "le", an_expr ∷ an_expr ∷ [], call (op.Test compare.Le) x2 []) ∷
    (codes "gt", an_expr ∷ an_expr ∷ [], call (op.Test compare.Gt) x2 []) ∷
    (codes "ge", an_expr ∷ an_expr ∷ [], call (op.Test compare.Ge) x2 []) ∷
    (codes "and", an_expr ∷ an_expr ∷ [], call (op.Join logic_op.And) x2 []) ∷
    (codes "or", an_expr ∷ an_expr ∷ [], call (op.Join logic_op.Or) x2 []) ∷
    (codes "xor", an_expr ∷ an_expr ∷ [], call (op.Join logic_op.Xor) x2 []) ∷
    (codes "not", an_expr ∷ [], call (op.Single single_op.Not) x1 []) ∷
    (codes "neg", an_expr ∷ [], call (op.Single single_op.Neg) x1 []) ∷
    (codes "abs", an_expr ∷ [], call (op.Single single_op.Abs) x1 []) ∷
    (codes "where", an_expr ∷ an_expr ∷ an_expr ∷ [], call op.Choose x3 []) ∷
    (codes "cast", an_expr ∷ a_primitive ∷ [], call op.Cast x1 (int8 ∷ [])) ∷
    (codes "sum", an_expr ∷ [], call (op.Reduce reduce_op.Sum) x1 []) ∷
    (codes "prod", an_expr ∷ [], call (op.Reduce reduce_op.Prod) x1 []) ∷
    (codes "min", an_expr ∷ [], call (op.Reduce reduce_op.Min) x1 []) ∷
    (codes "max", an_expr ∷ [], call (op.Reduce reduce_op.Max) x1 []) ∷
    (codes "argmin", an_expr ∷ [], call (op.Reduce reduce_op.Argmin) x1 []) ∷
    (codes "argmax", an_expr ∷ [], call (op.Reduce reduce_op.Argmax) x1 []) ∷
    (codes "any", an_expr ∷ [], call (op.Reduce reduce_op.Any) x1 []) ∷
    (codes "all", an_expr ∷ [], call (op.Reduce reduce_op.All) x1 []) ∷
    (codes "count", an_expr ∷ [], call (op.Reduce reduce_op.Count) x1 []) ∷
    (codes "count_nonzero", an_expr ∷ [], call (op.Reduce reduce_op.CountNonzero) x1 []) ∷
    (codes "cartesian", a_place ∷ exprs ∷ [], call (op.Cartesian target.Items) both (one ∷ [])) ∷
    (codes "argcartesian", a_place ∷ exprs ∷ [], call (op.Cartesian target.Places) both (one ∷ []))
    ∷ (
      codes "combinations",
      a_number ∷ a_truth ∷ a_place ∷ an_expr ∷ [],
      call (op.Combinations target.Items) x1 (first ∷ yes ∷ one ∷ []),
    ) ∷ (
      codes "argcombinations",
      a_number ∷ a_truth ∷ a_place ∷ an_expr ∷ [],
      call (op.Combinations target.Places) x1 (first ∷ yes ∷ one ∷ []),
    ) ∷
    (codes "sort", an_expr ∷ a_truth ∷ [], call (op.Sort target.Items) x1 (yes ∷ [])) ∷
    (codes "argsort", an_expr ∷ a_truth ∷ [], call (op.Sort target.Places) x1 (yes ∷ [])) ∷
    (codes "hist", an_expr ∷ some_edges ∷ [], call (op.Hist extent.Whole) x1 (edges ∷ [])) ∷
    (codes "hist_each", an_expr ∷ some_edges ∷ [], call (op.Hist extent.Each) x1 (edges ∷ [])) ∷
    []

pub are_read : map (λ e. said e.0 (goods e.1)) examples ≡ map (λ e. Some e.2) examples
unfolding row_of expr_said
are_read = refl

pub others_are_not : list_all are_refused examples ≡ true
unfolding row_of expr_said
others_are_not = refl

-- a range may have a step, and nothing behind it
abbrev by_steps : List Sample
by_steps = an_expr ∷ a_bound ∷ a_bound ∷ a_step ∷ []

pub steps_are_read :
    said (codes "range") (goods by_steps)
    ≡ Some (call op.Range x1 (Missing ∷ Missing ∷ Place (negsuc 0) ∷ []))
unfolding row_of expr_said
steps_are_read = refl

pub other_steps_are_not :
    list_all (λ args. is_none (said (codes "range") args))
    ((goods by_steps ++ text (codes "x") ∷ []) ∷ spoiled by_steps) ≡ true
unfolding row_of expr_said
other_steps_are_not = refl
