-- Worked expressions, each computed.
use Rattle.std.specs.Prelude.{◌≡◌, ℕ, ℤ, pos, negsuc, true, List, [], ◌∷◌, map, codes, Some, None}
use Rattle.std.specs.Prelude.{Ok, Err, refl}
use Rattle.awk_types.specs.DataType.{Name, DataType, leaf, var, rec, opt, types_from}
use Rattle.awk_types.specs.Value.{Value, int, truth, null, list, row, values_from}
use Rattle.awk_types.specs.Datum.{arr, one}
use Rattle.awk_types.specs.declared.primitive.Primitive.TheVariants.{Bool, I64}
use Rattle.awk_types.specs.declared.fault.Fault.TheVariants.{Unbound, NoField, WrongType, Overflow}
use Rattle.awk_types.specs.declared.fault.Fault.TheVariants.{Axis, Index}
use Rattle.awk_expr.specs.ExprTree as tree
use Rattle.awk_expr.specs.ExprTree.{ExprTree, exprs_from}
use Rattle.awk_expr.specs.declared.op.Op.{Op}
use Rattle.awk_expr.specs.declared.op.Op.TheVariants as op
use Rattle.awk_kernels.specs.declared.operation.Arith.TheVariants as arith
use Rattle.awk_expr.specs.declared.op.PlaceOp.TheVariants as place_op
use Rattle.awk_expr.specs.declared.op.PairOp.TheVariants as pair_op
use Rattle.awk_expr.specs.declared.op.ReduceOp.TheVariants as reduce_op
use Rattle.awk_expr.specs.declared.op.SingleOp.TheVariants as single_op
use Rattle.awk_expr.specs.declared.op.Target.TheVariants as target
use Rattle.awk_expr.specs.declared.op.AxisOp.TheVariants as axis_op
use Rattle.awk_expr.specs.declared.fixed.FixedArg.{FixedArg}
use Rattle.awk_expr.specs.declared.fixed.FixedArg.TheVariants.{Place, Missing, Text, Texts}
use Rattle.awk_eval.specs.Bindings.{Bindings, names, bind}
use Rattle.awk_eval.specs.Variables.{Environment}
use Rattle.awk_eval.specs.Eval.{eval}
use Rattle.awk_eval.specs.Views.{view_of}

abbrev x : Name
x = codes "x"

abbrev y : Name
y = codes "y"

abbrev n : ℕ → Value
n k = int (pos k)

abbrev numbers : List ℕ → List Value
numbers ks = map n ks

-- records of an int64 and a list of int64
abbrev pairs : DataType
pairs = rec (x ∷ y ∷ []) (types_from (leaf I64 ∷ var (leaf I64) ∷ []))

abbrev pair : ℕ → List ℕ → Value
pair k ks = row (values_from (n k ∷ list (values_from (numbers ks)) ∷ []))

-- records of an optional int64
abbrev optional : DataType
optional = rec (x ∷ []) (types_from (opt (leaf I64) ∷ []))

-- `a` is [{"x":1,"y":[1,2]},{"x":2,"y":[]}], and `b` the first of its rows alone
abbrev env : Environment
env =
    (codes "a", arr pairs (pair 1 (1 ∷ 2 ∷ []) ∷ pair 2 [] ∷ [])) ∷
    (codes "b", one pairs (pair 1 (1 ∷ 2 ∷ []))) ∷
    (codes "m", arr (leaf I64) (numbers (0 ∷ 1 ∷ 2 ∷ 3 ∷ 4 ∷ []))) ∷
    (codes "o", one optional (row (values_from (null ∷ [])))) ∷
    (codes "p", one optional (row (values_from (n 7 ∷ [])))) ∷
    []

abbrev a : ExprTree
a = tree.var (codes "a")

abbrev b : ExprTree
b = tree.var (codes "b")

abbrev m : ExprTree
m = tree.var (codes "m")

-- a name that is not bound
abbrev missing : ExprTree
missing = tree.var (codes "z")

abbrev of : Op → List ExprTree → List FixedArg → ExprTree
of o es fixed = tree.call o (exprs_from es) fixed

-- the greatest u64
abbrev great : ExprTree
great = tree.whole (pos 18446744073709551615)

-- ---- single values

a_name : eval env m ≡ Ok (arr (leaf I64) (numbers (0 ∷ 1 ∷ 2 ∷ 3 ∷ 4 ∷ [])))
a_name = refl

no_name : eval env missing ≡ Err (Unbound (codes "z"))
no_name = refl

a_number : eval [] (tree.whole (negsuc 4)) ≡ Ok (one (leaf I64) (int (negsuc 4)))
a_number = refl

greatest_int64 : eval [] (tree.whole (pos 9223372036854775807))
    ≡ Ok (one (leaf I64) (int (pos 9223372036854775807)))
greatest_int64 = refl

too_great : eval [] great ≡ Err Overflow
too_great = refl

a_truth_value : eval [] (tree.truth true) ≡ Ok (one (leaf Bool) (truth true))
a_truth_value = refl

-- ---- arguments

-- the first fault from the left is told
left_first : eval env (of (op.Pair pair_op.Pick) (missing ∷ great ∷ []) [])
    ≡ Err (Unbound (codes "z"))
left_first = refl

left_first_too : eval env (of (op.Pair pair_op.Pick) (great ∷ missing ∷ []) []) ≡ Err Overflow
left_first_too = refl

-- a number is a literal where the operation takes one, and else an int64
literal_operand : eval env (of (op.Calculate arith.Add) (great ∷ missing ∷ []) [])
    ≡ Err (Unbound (codes "z"))
literal_operand = refl

no_literal_operand : eval env (of (op.Single single_op.Neg) (great ∷ []) []) ≡ Err Overflow
no_literal_operand = refl

no_literal_condition : eval env (of op.Choose (great ∷ m ∷ m ∷ []) []) ≡ Err Overflow
no_literal_condition = refl

literal_choice : eval env (of op.Choose (m ∷ great ∷ missing ∷ []) []) ≡ Err (Unbound (codes "z"))
literal_choice = refl

-- and is not judged where no item is optional
literal_fills : eval env (of op.FillNone (m ∷ great ∷ []) (Place (pos 0) ∷ []))
    ≡ Ok (arr (leaf I64) (numbers (0 ∷ 1 ∷ 2 ∷ 3 ∷ 4 ∷ [])))
literal_fills = refl

-- with other arguments than its own an operation says so after its operands
other_arguments : eval env (of (op.Sort target.Items) (m ∷ []) []) ≡ Err WrongType
other_arguments = refl

other_arguments_of_nothing : eval env (of (op.Sort target.Items) (missing ∷ []) [])
    ≡ Err (Unbound (codes "z"))
other_arguments_of_nothing = refl

-- ---- ranges

abbrev range : FixedArg → FixedArg → ExprTree
range lo hi = of op.Range (m ∷ []) (lo ∷ hi ∷ [])

all_items : eval env (range Missing Missing) ≡ eval env m
all_items = refl

but_the_last : eval env (range (Place (pos 1)) (Place (negsuc 0)))
    ≡ Ok (arr (leaf I64) (numbers (1 ∷ 2 ∷ 3 ∷ [])))
but_the_last = refl

beyond_both_ends : eval env (range (Place (negsuc 9)) (Place (pos 99))) ≡ eval env m
beyond_both_ends = refl

last_before_first : eval env (range (Place (pos 3)) (Place (pos 1))) ≡ Ok (arr (leaf I64) [])
last_before_first = refl

step_of_one : eval env (of op.Range (m ∷ []) (Place (pos 3) ∷ Missing ∷ Place (pos 1) ∷ []))
    ≡ Ok (arr (leaf I64) (numbers (3 ∷ 4 ∷ [])))
step_of_one = refl

step_of_two : eval env (of op.Range (m ∷ []) (Missing ∷ Missing ∷ Place (pos 2) ∷ []))
    ≡ Ok (arr (leaf I64) (numbers (0 ∷ 2 ∷ 4 ∷ [])))
step_of_two = refl

step_back : eval env (of op.Range (m ∷ []) (Place (pos 3) ∷ Place (pos 0) ∷ Place (negsuc 1) ∷ []))
    ≡ Ok (arr (leaf I64) (numbers (3 ∷ 1 ∷ [])))
step_back = refl

range_of_a_value : eval env (of op.Range (b ∷ []) (Missing ∷ Missing ∷ [])) ≡ Err WrongType
range_of_a_value = refl

-- ---- fields

abbrev field : ExprTree → Name → ExprTree
field e k = of op.Field (e ∷ []) (Text k ∷ [])

field_of_each : eval env (field a x) ≡ Ok (arr (leaf I64) (numbers (1 ∷ 2 ∷ [])))
field_of_each = refl

-- the field of a single value is settled
settled_list : eval env (field b y) ≡ Ok (arr (leaf I64) (numbers (1 ∷ 2 ∷ [])))
settled_list = refl

settled_null : eval env (field (tree.var (codes "o")) x) ≡ Ok (one (opt (leaf I64)) null)
settled_null = refl

settled_present : eval env (field (tree.var (codes "p")) x) ≡ Ok (one (leaf I64) (n 7))
settled_present = refl

-- and the record of some fields is not
fields_of_a_value : eval env (of op.Fields (tree.var (codes "p") ∷ []) (Texts (x ∷ []) ∷ []))
    ≡ Ok (one optional (row (values_from (n 7 ∷ []))))
fields_of_a_value = refl

without_x : eval env (of op.WithoutField (b ∷ []) (Text x ∷ []))
    ≡ Ok (one (rec (y ∷ []) (types_from (var (leaf I64) ∷ [])))
    (row (values_from (list (values_from (numbers (1 ∷ 2 ∷ []))) ∷ []))))
without_x = refl

no_field : eval env (field b (codes "w")) ≡ Err (NoField (codes "w"))
no_field = refl

-- ---- picks

last_item : eval env (of (op.Place place_op.At) (m ∷ []) (Place (negsuc 0) ∷ []))
    ≡ Ok (one (leaf I64) (n 4))
last_item = refl

no_item : eval env (of (op.Place place_op.At) (m ∷ []) (Place (pos 5) ∷ [])) ≡ Err Index
no_item = refl

-- the numbers picked by their own, backwards
picked_back : eval env (of (op.Pair pair_op.Pick) (m ∷ of op.Range (m ∷ [])
    (Missing ∷ Missing ∷ Place (negsuc 1) ∷ []) ∷ []) [])
    ≡ Ok (arr (leaf I64) (numbers (4 ∷ 2 ∷ 0 ∷ [])))
picked_back = refl

picked_by_a_value : eval env (of (op.Pair pair_op.Pick) (m ∷ b ∷ []) []) ≡ Err WrongType
picked_by_a_value = refl

picked_by_lists : eval env (of (op.Pair pair_op.Pick) (m ∷ field a y ∷ []) []) ≡ Err WrongType
picked_by_lists = refl

-- ---- axes

-- [[1,2],[]]
abbrev lists : ExprTree
lists = field a y

-- {"y":[1,2]} alone
abbrev single : ExprTree
single = of op.Fields (b ∷ []) (Texts (y ∷ []) ∷ [])

abbrev num : ExprTree → ℤ → ExprTree
num e axis = of (op.Axis axis_op.Num) (e ∷ []) (Place axis ∷ [])

-- a negative axis counts from the innermost lists up to the array itself
innermost_lists : eval env (num lists (negsuc 0)) ≡ Ok (arr (leaf I64) (numbers (2 ∷ 0 ∷ [])))
innermost_lists = refl

array_itself : eval env (num lists (negsuc 1)) ≡ Ok (one (leaf I64) (n 2))
array_itself = refl

outside_the_array : eval env (num lists (negsuc 2)) ≡ Err Axis
outside_the_array = refl

-- in a single value to the lists directly inside
in_a_value : eval env (num single (negsuc 0))
    ≡ Ok (one (rec (y ∷ []) (types_from (leaf I64 ∷ []))) (row (values_from (n 2 ∷ []))))
in_a_value = refl

outside_the_value : eval env (num single (negsuc 1)) ≡ Err Axis
outside_the_value = refl

-- and not where branches are unequally deep
unequal_branches : eval env (num a (negsuc 0)) ≡ Err Axis
unequal_branches = refl

abbrev joined : List ExprTree → ℤ → ExprTree
joined es axis = of op.Concatenate es (Place axis ∷ [])

same_axis : eval env (joined (lists ∷ lists ∷ []) (negsuc 0))
    ≡ Ok (arr (var (leaf I64))
    (map (λ ks. list (values_from (numbers ks))) ((1 ∷ 2 ∷ 1 ∷ 2 ∷ []) ∷ [] ∷ [])))
same_axis = refl

other_axis : eval env (joined (m ∷ lists ∷ []) (negsuc 0)) ≡ Err Axis
other_axis = refl

-- ---- names

abbrev two : Bindings ℕ
two = (x, 1) ∷ (y, 2) ∷ []

-- a name that is bound keeps its place, and a new one goes last
bound_anew : bind x 5 two ≡ (x, 5) ∷ (y, 2) ∷ []
bound_anew = refl

bound_last : names (bind (codes "z") 5 two) ≡ x ∷ y ∷ codes "z" ∷ []
bound_last = refl

-- ---- views

three_times : view_of (of op.Range (field a x ∷ []) (Missing ∷ Missing ∷ []))
    ≡ Some (record { name = codes "a"; count = 3 })
three_times = refl

no_view : view_of (of op.Range (a ∷ []) (Missing ∷ Missing ∷ Place (pos 2) ∷ [])) ≡ None
no_view = refl

no_view_of_a_sum : view_of (of (op.Reduce reduce_op.Sum) (a ∷ []) []) ≡ None
no_view_of_a_sum = refl
