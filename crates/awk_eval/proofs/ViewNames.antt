-- The name of the variable that an expression is a view of, through calls.
use Rattle.std.proofs.Common.{◌≡◌, Bool, true, false, cond, List, [], ◌∷◌, length, slice_get}
use Rattle.std.proofs.Common.{Option, Some, None, option_map, refl, sym, ap, ◌∙◌}
use Rattle.std.specs.Prelude.{not}
use Rattle.awk_types.specs.DataType.{Name}
use Rattle.awk_expr.specs.ExprTree.{ExprTree, call, exprs_from}
use Rattle.awk_expr.specs.View.{expr_of, exprs_of}
use Rattle.awk_expr.specs.declared.expr.Expr.{Expr, Call}
use Rattle.awk_expr.specs.declared.expr.Exprs.{Exprs}
use Rattle.awk_expr.specs.declared.fixed.Fixed.{Fixed}
use Rattle.awk_expr.specs.declared.fixed.FixedArg.{FixedArg}
use Rattle.awk_expr.specs.declared.op.Op.{Op}
use Rattle.awk_expr.proofs.Views.{expr_of-Call}
use Rattle.awk_eval.specs.Bindings.{look_up}
use Rattle.awk_eval.specs.Heights.{is_array_view, is_single}
use Rattle.awk_eval.specs.Variables.{Variables}
use Rattle.awk_eval.specs.Views.{View, is_view_op, view_of}
use Rattle.awk_eval.proofs.ViewSteps.{again}

abbrev pub name_of : Option View → Option Name
name_of view = option_map (λ v. v.name) view

again_name : (b : Bool) (o : Option View) → b ≡ true
    → name_of o ≡ name_of (cond b (option_map again o) None)
again_name true None e = refl
again_name true (Some v) e = refl
again_name false o e = cc

one_name : (o : Op) (fixed : List FixedArg) (es : List ExprTree) (d : ExprTree) → length es ≡ 1
    → slice_get es 0 ≡ Some d → is_view_op o fixed ≡ true
    → name_of (view_of d) ≡ name_of (view_of (call o (exprs_from es) fixed))
one_name o fixed [] d n at e = cc
one_name o fixed (c ∷ []) d n at e =
    let same : d ≡ c = cc in
    ap (λ t. name_of (view_of t)) same ∙ again_name (is_view_op o fixed) (view_of c) e
one_name o fixed (c ∷ b ∷ es) d n at e = cc

many_name : (o : Op) (fixed : List FixedArg) (es : List ExprTree) → (length es ≡ 1 → ⊥)
    → None ≡ name_of (view_of (call o (exprs_from es) fixed))
many_name o fixed [] h = refl
many_name o fixed (c ∷ []) h = absurd (h refl)
many_name o fixed (c ∷ b ∷ es) h = refl

module _ (e : Expr) (o : Op) (args : Exprs) (fixed : Fixed) (is : e ≡ Call o args fixed) where
  tree : expr_of e ≡ call o (exprs_from (exprs_of args)) fixed
  tree = ap expr_of is ∙ expr_of-Call o args fixed

  -- that of the only expression
  pub viewed_one : (d : ExprTree) → length (exprs_of args) ≡ 1
      → slice_get (exprs_of args) 0 ≡ Some d → is_view_op o fixed ≡ true
      → name_of (view_of d) ≡ name_of (view_of (expr_of e))
  viewed_one d n at views =
      one_name o fixed (exprs_of args) d n at views ∙ ap (λ t. name_of (view_of t)) (sym tree)

  -- none of several expressions, or of none
  pub viewed_many : (length (exprs_of args) ≡ 1 → ⊥) → None ≡ name_of (view_of (expr_of e))
  viewed_many h =
      many_name o fixed (exprs_of args) h ∙ ap (λ t. name_of (view_of t)) (sym tree)

-- ---- views of arrays

pub array_view-name : (variables : Variables) (view : Option View) (n : Name)
    → Some n ≡ name_of view → is_array_view variables view ≡ not (is_single (look_up n variables))
array_view-name variables None n e = cc
array_view-name variables (Some v) n e =
    let same : v.name ≡ n = cc in
    ap (λ m. not (is_single (look_up m variables))) same

pub array_view-none : (variables : Variables) (view : Option View) → None ≡ name_of view
    → false ≡ is_array_view variables view
array_view-none variables None e = refl
array_view-none variables (Some v) e = cc
