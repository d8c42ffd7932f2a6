-- The equations of `expr_of` and its like.
use Rattle.std.proofs.Common.{◌≡◌, ℕ, ◌<◌, List, map, arith, length, slice_get, Some, get_or, sym}
use Rattle.std.proofs.Common.{ap, ◌∙◌}
use Rattle.std.proofs.lemmas.List.{length-map}
use Rattle.awk_base.proofs.Lists.{slice_get_of_map}
use Rattle.awk_expr.specs.ExprTree.{ExprTree, call, exprs_from}
use Rattle.awk_expr.specs.View.{expr_step, exprs_step, expr_of, exprs_of}
use Rattle.awk_expr.specs.declared.expr.Expr.{Expr, Call}
use Rattle.awk_expr.specs.declared.expr.Exprs.{Exprs}
use Rattle.awk_expr.specs.declared.op.Op.{Op}
use Rattle.awk_expr.specs.declared.fixed.Fixed.{Fixed}
use Rattle.awk_expr.specs.declared.expr.Expr.TheOpen.{Expr-F}
use Rattle.awk_expr.specs.declared.expr.Expr.TheVariants.{rolls-Call}
use Rattle.awk_expr.specs.declared.expr.Expr.TheViews.{out-Exprs}
use Rattle.awk_expr.specs.declared.expr.Expr.TheFolds.{fold_out-Exprs, fold-roll-Expr}

pub exprs_out : (es : Exprs) → exprs_of es ≡ map expr_of (out-Exprs es).items.items
exprs_out = fold_out-Exprs ExprTree (List ExprTree) expr_step exprs_step

pub exprs_get : (es : Exprs) (i : ℕ) (x : Expr) → i < length (exprs_of es)
    → x ≡ get_or (out-Exprs es).items.items i x → slice_get (exprs_of es) i ≡ Some (expr_of x)
exprs_get es i x within read =
    rw (exprs_out es)
    (slice_get_of_map expr_of (out-Exprs es).items.items i x
    (omega (arith, ap length (exprs_out es), length-map (out-Exprs es).items.items expr_of)) read)

-- the variant that holds a list
pub expr_of-Call : (op : Op) (args : Exprs) (fixed : Fixed)
    → expr_of (Call op args fixed) ≡ call op (exprs_from (exprs_of args)) fixed
expr_of-Call op args fixed = ap expr_of (sym (rolls-Call op args fixed))
    ∙ fold-roll-Expr ExprTree (List ExprTree) expr_step exprs_step (Expr-F.Call op args fixed)
