-- The expression that a JSON value is.
use Rattle.std.specs.Prelude.{ℕ, zero, suc, ℤ, Bool, List, [], ◌∷◌, length, Option, Some, None}
use Rattle.std.specs.Prelude.{option_map, option_and_then}
use Rattle.serde_json.specs.Data.{Data, null, boolean, number, string, array, object, depth}
use Rattle.serde_json.specs.Find.{as_str}
use Rattle.awk_types.specs.DataType.{Name}
use Rattle.awk_expr.specs.Operations.{Found, row_of}
use Rattle.awk_expr.specs.Arguments.{Args, args_of, item_list, all_of}
use Rattle.awk_expr.specs.ExprTree as tree
use Rattle.awk_expr.specs.ExprTree.{ExprTree, exprs_from}
use Rattle.awk_expr.specs.WholeNumbers.{whole_in, whole_of}
use Rattle.awk_expr.specs.declared.op.Op.{Op}

-- an expression whose parts are not read yet
pub data Head : Type 0 where
  var : Name → Head
  whole : ℤ → Head
  truth : Bool → Head
  call : Op → Args → Head

abbrev pub call_head : List Data → Found → Option Head
call_head ds found = option_map (call found.0) (args_of found.1 ds)

-- a call begins with the name of its operation
abbrev pub list_head : List Data → Option Head
list_head [] = None
list_head (d ∷ ds) =
    option_and_then (call_head ds) (option_and_then (λ name. row_of name (length ds)) (as_str d))

abbrev pub head_of : Data → Option Head
head_of null = None
head_of (boolean b) = Some (truth b)
head_of (number n) = option_map whole (whole_in n)
head_of (string s) = Some (var s)
head_of (array ds) = list_head (item_list ds)
head_of (object ms) = None

-- the expression, where f reads those of a call
abbrev pub expr_with : (Data → Option ExprTree) → Head → Option ExprTree
expr_with f (var n) = Some (tree.var n)
expr_with f (whole z) = Some (tree.whole z)
expr_with f (truth b) = Some (tree.truth b)
expr_with f (call op args) =
    option_map (λ es. tree.call op (exprs_from es) args.fixed) (all_of f args.exprs)

abbrev pub expr_down : ℕ → Data → Option ExprTree
expr_down zero d = None
expr_down (suc levels) d = option_and_then (expr_with (expr_down levels)) (head_of d)

-- there are no more levels than the value nests
unfoldable pub expr_said : Data → Option ExprTree
expr_said d = expr_down (suc (depth d)) d

-- the call that a list is
abbrev pub call_said : List Data → Option ExprTree
call_said ds = option_and_then (expr_with expr_said) (list_head ds)

abbrev pub whole_said : Data → Option ExprTree
whole_said d = option_map tree.whole (whole_of d)
