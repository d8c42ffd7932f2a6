-- View expressions: a variable, and ranges of step 1 and choices of fields of it. What they take
-- goes by the number of nodes of the variable's array, and not by its items.
use Rattle.std.specs.Prelude.{◌≤◌, ℕ, ◌+◌, ◌*◌, Bool, true, false, Option, Some, None, option_map}
use Rattle.std.specs.Prelude.{is_some, Result, IfOk, List, [], ◌∷◌, if◌then◌else◌}
use Rattle.std.specs.List.{AllByRecursion}
use Rattle.awk_types.specs.DataType.{Name}
use Rattle.awk_types.specs.declared.fault.Fault.{Fault}
use Rattle.awk_layout.specs.Layout.{weight, height}
use Rattle.awk_layout.specs.declared.datum.Datum.{Datum}
use Rattle.awk_layout.specs.declared.datum.Datum.TheVariants.{Arr, One}
use Rattle.awk_layout.specs.declared.datum.Operand.{Operand}
use Rattle.awk_layout.specs.declared.datum.Operand.TheVariants.{Of, Literal}
use Rattle.awk_expr.specs.ExprTree.{ExprTree, var, whole, truth, call, no_exprs, expr}
use Rattle.awk_expr.specs.declared.op.Op.{Op}
use Rattle.awk_expr.specs.declared.op.Op.TheVariants as op
use Rattle.awk_expr.specs.declared.fixed.FixedArg.{FixedArg}
use Rattle.awk_eval.specs.Bindings.{Bindings, look_up, each}
use Rattle.awk_arguments.specs.Fixed.{bounds_in}
use Rattle.awk_eval.specs.Variables.{Variables}

-- ---- sizes

-- how many nodes an array has, and how many on its longest path
pub record Size : Type 0 where
  pub width : ℕ
  pub height : ℕ

abbrev pub Sizes : Type 0
Sizes = Bindings Size

abbrev pub size_of : Datum → Size
size_of (Arr x) = record { width = weight x; height = height x }
size_of (One x) = record { width = weight x; height = height x }

abbrev pub sizes_of : Variables → Sizes
sizes_of variables = each size_of variables

abbrev pub size_or_none : Option Size → Size
size_or_none None = record { width = 0; height = 0 }
size_or_none (Some s) = s

-- the size of a name, 0 where it is not bound
abbrev pub size_at : Sizes → Name → Size
size_at sizes n = size_or_none (look_up n sizes)

-- a datum is an array of no more nodes, and no higher
abbrev pub IsWithin : Size → Datum → Type 0
IsWithin s (Arr x) = (weight x ≤ s.width) × (height x ≤ s.height)
IsWithin s (One x) = ⊥

abbrev pub IsOperandWithin : Size → Operand → Type 0
IsOperandWithin s (Of x) = IsWithin s x
IsOperandWithin s (Literal z) = ⊥

abbrev pub AreWithin : Size → List Operand → Type 0
AreWithin s operands = AllByRecursion (IsOperandWithin s) operands

-- ---- views

-- a variable, and how many times it is taken: by its name, and by each range and choice of fields
pub record View : Type 0 where
  pub name : Name
  pub count : ℕ

-- whether an operation is a range of step 1 or a choice of fields
abbrev pub is_view_op : Op → List FixedArg → Bool
is_view_op op.Range fixed = is_some (bounds_in fixed)
is_view_op op.Field fixed = true
is_view_op op.Fields fixed = true
is_view_op op.WithoutField fixed = true
is_view_op _ fixed = false

-- the view that an operation of one is
abbrev pub once_more : Op → List FixedArg → Option View → Option View
once_more o fixed view =
    if is_view_op o fixed then option_map (λ v. record { name = v.name; count = v.count + 1 }) view
    else None

-- the view that an expression is
abbrev pub view_of : ExprTree → Option View
view_of (var n) = Some (record { name = n; count = 1 })
view_of (whole z) = None
view_of (truth b) = None
view_of (call o no_exprs fixed) = None
view_of (call o (expr e no_exprs) fixed) = once_more o fixed (view_of e)
view_of (call o (expr e (expr d es)) fixed) = None

-- the view that the only one of some expressions is
abbrev pub only_view : List ExprTree → Option View
only_view (e ∷ []) = view_of e
only_view _ = None

-- ---- what views take

-- what is taken n times takes at most four steps a node each time
abbrev pub IsTaken : Size → ℕ → ℕ → ℕ → Type 0
IsTaken s n steps0 steps1 = steps1 ≤ steps0 + 4 * s.width * n

-- and it gives what is no greater
pub record Takes (s : Size) (n : ℕ) (steps0 steps1 : ℕ) (result : Result Datum Fault) : Type 0 where
  pub steps : IsTaken s n steps0 steps1
  pub within : IfOk result (IsWithin s)

-- a variable that is not bound, or is an array
abbrev pub IsArray : Option Datum → Type 0
IsArray None = Unit {0}
IsArray (Some (Arr x)) = Unit {0}
IsArray (Some (One x)) = ⊥

-- a fact of an expression that is a view of such a variable
abbrev pub OfView : Variables → Option View → (View → Type 0) → Type 0
OfView variables None Fact = Unit {0}
OfView variables (Some v) Fact = IsArray (look_up v.name variables) → Fact v

-- the size of the variable of a view
abbrev pub size_in : Variables → View → Size
size_in variables v = size_at (sizes_of variables) v.name

-- such a view takes its variable
abbrev pub TakesView : Variables → Option View → ℕ → ℕ → Result Datum Fault → Type 0
TakesView variables view steps0 steps1 result =
    OfView variables view (λ v. Takes (size_in variables v) v.count steps0 steps1 result)
