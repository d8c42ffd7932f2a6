-- The expression that an `Expr` is.
use Rattle.std.specs.Prelude.{◌<◌, List}
use Rattle.awk_expr.specs.ExprTree.{ExprTree, var, whole, truth, call, exprs_from}
use Rattle.awk_expr.specs.declared.expr.Expr.{Expr, size-Expr}
use Rattle.awk_expr.specs.declared.expr.Exprs.{Exprs, size-Exprs}
use Rattle.awk_expr.specs.declared.expr.Expr.TheOpen.{Expr-F, Exprs-F}
use Rattle.awk_expr.specs.declared.expr.Expr.TheFolds.{fold-Expr, fold-Exprs}

abbrev pub expr_step : Expr-F ExprTree (List ExprTree) → ExprTree
expr_step (Expr-F.Var name) = var name
expr_step (Expr-F.Whole z) = whole z
expr_step (Expr-F.Truth b) = truth b
expr_step (Expr-F.Call op args fixed) = call op (exprs_from args) fixed

abbrev pub exprs_step : Exprs-F ExprTree (List ExprTree) → List ExprTree
exprs_step e = e.items.items

abbrev pub expr_of : Expr → ExprTree
expr_of = fold-Expr ExprTree (List ExprTree) expr_step exprs_step

abbrev pub exprs_of : Exprs → List ExprTree
exprs_of = fold-Exprs ExprTree (List ExprTree) expr_step exprs_step

-- an expression that `get` hands out is smaller than the list: a recursion may go into it
abbrev pub Below : Expr → Exprs → Type 0
Below e es = size-Expr e < size-Exprs es
