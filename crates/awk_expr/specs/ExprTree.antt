-- Expressions: one tree for each.
use Rattle.std.specs.Prelude.{ℤ, Bool, List, [], ◌∷◌}
use Rattle.awk_types.specs.DataType.{Name}
use Rattle.awk_expr.specs.declared.op.Op.{Op}
use Rattle.awk_expr.specs.declared.fixed.FixedArg.{FixedArg}

mutual
  pub data ExprTree : Type 0 where
    var : Name → ExprTree
    whole : ℤ → ExprTree
    truth : Bool → ExprTree
    call : Op → ExprTrees → List FixedArg → ExprTree

  pub data ExprTrees : Type 0 where
    no_exprs : ExprTrees
    expr : ExprTree → ExprTrees → ExprTrees

-- expressions as a list, and back
abbrev pub expr_list : ExprTrees → List ExprTree
expr_list no_exprs = []
expr_list (expr e es) = e ∷ expr_list es

abbrev pub exprs_from : List ExprTree → ExprTrees
exprs_from [] = no_exprs
exprs_from (e ∷ es) = expr e (exprs_from es)
