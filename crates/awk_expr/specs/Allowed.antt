-- Which expressions evaluation takes: each call has the arguments of its operation within their
-- bounds, and each whole number fits i64 or u64.
use Rattle.std.specs.Prelude.{◌≡◌, ◌<◌, ℕ, ◌+◌, Bool, true, false, ◌&&◌, List, [], ◌∷◌, ◌++◌}
use Rattle.std.specs.Prelude.{length, Some, is_some}
use Rattle.std.specs.List.{list_all}
use Rattle.awk_types.specs.DataType.{Name}
use Rattle.awk_types.specs.Names.{is_among, are_distinct}
use Rattle.awk_expr.specs.Arguments.{not_zero, some_count, primitives}
use Rattle.awk_expr.specs.ExprTree.{ExprTree, ExprTrees, var, whole, truth, call, no_exprs, expr}
use Rattle.awk_expr.specs.ExprTree.{expr_list}
use Rattle.awk_expr.specs.Operations.{row_of}
use Rattle.awk_expr.specs.WholeNumbers.{is_whole, are_edges}
use Rattle.awk_expr.specs.declared.op.Op.{Op}
use Rattle.awk_expr.specs.declared.kind.ArgKind.{ArgKind}
use Rattle.awk_expr.specs.declared.kind.ArgKind.TheVariants as kind
use Rattle.awk_expr.specs.declared.fixed.FixedArg.{FixedArg}
use Rattle.awk_expr.specs.declared.fixed.FixedArg.TheVariants.{Place, Count, Missing, Truth, Text}
use Rattle.awk_expr.specs.declared.fixed.FixedArg.TheVariants.{Texts, Wholes}

-- whether an argument that is no expression is one of this kind
abbrev pub is_of_kind : ArgKind → FixedArg → Bool
is_of_kind kind.Place (Place z) = true
is_of_kind kind.Bound (Place z) = true
is_of_kind kind.Bound Missing = true
is_of_kind kind.Step (Place z) = is_some (not_zero z)
is_of_kind kind.Count (Count n) = true
is_of_kind kind.SomeCount (Count n) = is_some (some_count n)
is_of_kind kind.Truth (Truth b) = true
is_of_kind kind.Text (Text name) = true
is_of_kind kind.Texts (Texts names) = are_distinct names
is_of_kind kind.Primitive (Text name) = is_among name primitives
is_of_kind kind.Edges (Wholes zs) = are_edges zs && list_all is_whole zs
is_of_kind _ _ = false

-- one argument that is no expression
pub record IsFixed (k : ArgKind) (n : ℕ) (fixed : List FixedArg) : Type 0 where
  pub arg : FixedArg
  pub alone : fixed ≡ arg ∷ []
  pub no_exprs : n ≡ 0
  pub of_kind : is_of_kind k arg ≡ true

-- names, each with its expression, and no name twice
pub record IsNamed (n : ℕ) (fixed : List FixedArg) : Type 0 where
  pub names : List Name
  pub alone : fixed ≡ Texts names ∷ []
  pub as_many : n ≡ length names
  pub some : 0 < length names
  pub distinct : are_distinct names ≡ true

-- an argument of this kind gives so many expressions and these other arguments
abbrev pub IsArgument : ArgKind → ℕ → List FixedArg → Type 0
IsArgument kind.Expr n fixed = (n ≡ 1) × (fixed ≡ [])
IsArgument kind.Exprs n fixed = (0 < n) × (fixed ≡ [])
IsArgument kind.NamedExprs n fixed = IsNamed n fixed
IsArgument k n fixed = IsFixed k n fixed

-- what the first of the arguments gives, and what the others do
pub record Splits (k : ArgKind) (Others : ℕ → List FixedArg → Type 0) (n : ℕ)
    (fixed : List FixedArg)
    : Type 0 where
  pub here : ℕ
  pub later : ℕ
  pub first : List FixedArg
  pub others : List FixedArg
  pub exprs : n ≡ here + later
  pub parts : fixed ≡ first ++ others
  pub is : IsArgument k here first
  pub are : Others later others

-- arguments of these kinds give so many expressions and these other arguments
abbrev pub AreArguments : List ArgKind → ℕ → List FixedArg → Type 0
AreArguments [] n fixed = (n ≡ 0) × (fixed ≡ [])
AreArguments (k ∷ ks) n fixed = Splits k (AreArguments ks) n fixed

-- so many expressions and these other arguments are those of a row of the operation
pub record HasArguments (op : Op) (n : ℕ) (fixed : List FixedArg) : Type 0 where
  pub name : Name
  pub count : ℕ
  pub kinds : List ArgKind
  pub row : row_of name count ≡ Some (op, kinds)
  pub are : AreArguments kinds n fixed

abbrev mutual
  pub IsAllowed : ExprTree → Type 0
  IsAllowed (var name) = Unit {0}
  IsAllowed (whole z) = is_whole z ≡ true
  IsAllowed (truth b) = Unit {0}
  IsAllowed (call op args fixed) = HasArguments op (length (expr_list args)) fixed × AreAllowed args

  pub AreAllowed : ExprTrees → Type 0
  AreAllowed no_exprs = Unit {0}
  AreAllowed (expr e es) = IsAllowed e × AreAllowed es
