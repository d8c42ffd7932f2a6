-- What an expression is over an environment: a datum, or the first fault.
use Rattle.std.specs.Prelude.{ℕ, suc, ℤ, pos, negsuc, int_le, Bool, true, false, ◌&&◌, List, []}
use Rattle.std.specs.Prelude.{◌∷◌, Option, Some, None, Result, Ok, Err, if◌then◌else◌}
use Rattle.awk_types.specs.DataType.{DataType, Name, leaf}
use Rattle.awk_types.specs.Value.{int, truth}
use Rattle.awk_types.specs.Datum.{Datum, arr, one}
use Rattle.awk_types.specs.Settle.{settle}
use Rattle.awk_types.specs.declared.primitive.Primitive.TheVariants as primitive
use Rattle.awk_types.specs.declared.fault.Fault.{Fault}
use Rattle.awk_types.specs.declared.fault.Fault.TheVariants.{Unbound, WrongType, Overflow}
use Rattle.awk_expr.specs.ExprTree as tree
use Rattle.awk_expr.specs.ExprTree.{ExprTree, ExprTrees, no_exprs, expr}
use Rattle.awk_expr.specs.declared.op.Op.{Op}
use Rattle.awk_expr.specs.declared.op.Op.TheVariants as op
use Rattle.awk_expr.specs.declared.op.PlaceOp.{PlaceOp}
use Rattle.awk_expr.specs.declared.op.PlaceOp.TheVariants as place_op
use Rattle.awk_expr.specs.declared.op.PairOp.{PairOp}
use Rattle.awk_expr.specs.declared.op.PairOp.TheVariants as pair_op
use Rattle.awk_expr.specs.declared.op.AxisOp.{AxisOp}
use Rattle.awk_expr.specs.declared.op.AxisOp.TheVariants as axis_op
use Rattle.awk_expr.specs.declared.op.LogicOp.{LogicOp}
use Rattle.awk_expr.specs.declared.op.LogicOp.TheVariants as logic_op
use Rattle.awk_expr.specs.declared.op.SingleOp.{SingleOp}
use Rattle.awk_expr.specs.declared.op.SingleOp.TheVariants as single_op
use Rattle.awk_expr.specs.declared.op.ReduceOp.{ReduceOp}
use Rattle.awk_expr.specs.declared.op.ReduceOp.TheVariants as reduce_op
use Rattle.awk_expr.specs.declared.op.Target.{Target}
use Rattle.awk_expr.specs.declared.op.Target.TheVariants as target
use Rattle.awk_expr.specs.declared.op.Extent.{Extent}
use Rattle.awk_expr.specs.declared.op.Extent.TheVariants as extent
use Rattle.awk_expr.specs.declared.fixed.FixedArg.{FixedArg}
use Rattle.awk_view.specs.Choice.{field, fields}
use Rattle.awk_arguments.specs.Axes.{axis_in, axis_among, at_axis, at_common_axis}
use Rattle.awk_arguments.specs.Fixed.{bounds_in, Stepped, stepped_in, place_in, text_in, texts_in}
use Rattle.awk_arguments.specs.Fixed.{padding_in, truth_in, tuples_in, depth_in, named_in, edges_in}
use Rattle.awk_arguments.specs.Operand.{Operand, takes_literal, only_in, both_in, first_in, two_in}
use Rattle.awk_arguments.specs.Operand.{three_in, data_in}
use Rattle.awk_arguments.specs.Primitives.{primitive_in}
use Rattle.awk_eval.specs.Bindings.{look_up}
use Rattle.awk_eval.specs.Variables.{Environment}
use Rattle.awk_arith.specs.Binary.{binary_of}
use Rattle.awk_choose.specs.Choice.{choose_of}
use Rattle.awk_arith.specs.Unary.{unary_of}
use Rattle.awk_cast.specs.Cast.{cast_of}
use Rattle.awk_combi.specs.Combinations.{combinations_of}
use Rattle.awk_cartesian.specs.Cartesian.{cartesian_of}
use Rattle.awk_at_each.specs.Each.{at_each_of}
use Rattle.awk_jagged.specs.Jagged.{is_jagged, jagged_of}
use Rattle.awk_select.specs.Picks.{at_of, step_range_of, is_mask, mask_of, take_of}
use Rattle.awk_lists.specs.Flatten.{flatten_of}
use Rattle.awk_lists.specs.LocalIndex.{local_index_of}
use Rattle.awk_lists.specs.Num.{num_of}
use Rattle.awk_lists.specs.RunLengths.{run_lengths_of}
use Rattle.awk_order.specs.Sort.{sort_of, argsort_of}
use Rattle.awk_lists.specs.Unflatten.{unflatten_of}
use Rattle.awk_zip.specs.Zip.{zip_of}
use Rattle.awk_lists.specs.WithoutField.{choice_of, without_field_of}
use Rattle.awk_with_field.specs.WithField.{with_field_of}
use Rattle.awk_nulls.specs.DropNone.{drop_none_of}
use Rattle.awk_merge_operands.specs.Concatenate.{concatenate_of}
use Rattle.awk_hist.specs.HistEach.{histogram}
use Rattle.awk_reduce.specs.Reduce.{reduce_of}
use Rattle.awk_reduce.specs.declared.reducer.Reducer.{Reducer}
use Rattle.awk_reduce.specs.declared.reducer.Reducer.TheVariants as reducer
use Rattle.awk_fill.specs.FillNone.{fill_none_of}
use Rattle.awk_layout.specs.Filler.{literal, datum}
use Rattle.awk_leaves.specs.declared.operation.Binary.{Binary}
use Rattle.awk_leaves.specs.declared.operation.Binary.TheVariants.{Calculate, Test, Join}
use Rattle.awk_leaves.specs.declared.operation.Logic.{Logic}
use Rattle.awk_leaves.specs.declared.operation.Logic.TheVariants as logic
use Rattle.awk_leaves.specs.declared.operation.Unary.{Unary}
use Rattle.awk_leaves.specs.declared.operation.Unary.TheVariants as unary
use Rattle.awk_nulls.specs.Firsts.{firsts_of}
use Rattle.awk_nulls.specs.IsNone.{is_none_of}
use Rattle.awk_padding.specs.PadNone.{pad_none_of}
use Rattle.awk_mask.specs.PutMask.{put_mask_of}
use Rattle.awk_nulls.specs.Singletons.{singletons_of}
use Rattle.awk_eval.specs.Ranges.{range_items}

-- ---- results: the first fault wins

abbrev pub and_then : {A B : Type 0} → (A → Result B Fault) → Result A Fault → Result B Fault
and_then f (Ok a) = f a
and_then f (Err e) = Err e

abbrev pub mapped : {A B : Type 0} → (A → B) → Result A Fault → Result B Fault
mapped f (Ok a) = Ok (f a)
mapped f (Err e) = Err e

-- ---- single values

abbrev pub found : Name → Option Datum → Result Datum Fault
found n None = Err (Unbound n)
found n (Some d) = Ok d

abbrev pub fits_int64 : ℤ → Bool
fits_int64 z = int_le (negsuc 9223372036854775807) z && int_le z (pos 9223372036854775807)

-- a whole number by itself is of int64
abbrev pub int64_of : ℤ → Result Datum Fault
int64_of z = if fits_int64 z then Ok (one (leaf primitive.I64) (int z)) else Err Overflow

abbrev pub bool_of : Bool → Datum
bool_of b = one (leaf primitive.Bool) (truth b)

-- ---- operations

-- a range of step 1 of an array
abbrev pub range_of : FixedArg × FixedArg → Datum → Result Datum Fault
range_of bounds (arr t vs) = Ok (arr t (range_items bounds.0 bounds.1 vs))
range_of bounds (one t v) = Err WrongType

abbrev pub settled : Datum → Datum
settled (arr t vs) = arr t vs
settled (one t v) = settle t v

-- the field of a single value is settled
abbrev pub field_of : Name → Datum → Result Datum Fault
field_of n d = mapped settled (choice_of (field n) d)

abbrev pub fields_of : List Name → Datum → Result Datum Fault
fields_of ns d = choice_of (fields ns) d

-- An argument that is the operation's own. With others than its own, which no line that is read
-- has, an operation answers a type fault.
abbrev pub own : {A : Type 0} → Option A → Result A Fault
own (Some a) = Ok a
own None = Err WrongType

-- an operation on what it takes, with another argument
abbrev pub given : {A B : Type 0} → (A → B → Result Datum Fault)
    → Option A → Option B → Result Datum Fault
given f a b = and_then (λ a. and_then (f a) (own b)) (own a)

-- and without another
abbrev pub alone : {A : Type 0} → (A → Result Datum Fault) → Option A → Result Datum Fault
alone f a = and_then f (own a)

-- a range of an array, by step 1 or by another
abbrev pub stepped_of : Datum → Stepped → Result Datum Fault
stepped_of d s = step_range_of s.lo s.hi s.step d

abbrev pub ranged : Option (FixedArg × FixedArg) → List FixedArg → Datum → Result Datum Fault
ranged (Some bounds) fixed d = range_of bounds d
ranged None fixed d = alone (stepped_of d) (stepped_in fixed)

-- the items of e that items x of type u name: row by row where these are lists, by a mask where
-- they are truth values, else by an index
abbrev pub pick_by : DataType → Datum → Datum → Result Datum Fault
pick_by u e x =
    if is_jagged u then jagged_of e x else if is_mask u then mask_of e x else take_of e x

abbrev pub pick_of : Datum → Datum → Result Datum Fault
pick_of (arr t vs) (arr u ws) = pick_by u (arr t vs) (arr u ws)
pick_of e x = Err WrongType

-- ---- operations of one shape

-- at a place
abbrev pub place_function : PlaceOp → ℤ → Datum → Result Datum Fault
place_function place_op.At = at_of
place_function place_op.AtEach = at_each_of

-- on two data
abbrev pub pair_function : PairOp → Datum × Datum → Result Datum Fault
pair_function pair_op.Pick p = pick_of p.0 p.1
pair_function pair_op.Unflatten p = unflatten_of p.0 p.1

-- at an axis
abbrev pub axis_function : AxisOp → ℤ → Datum → Result Datum Fault
axis_function axis_op.Num = num_of
axis_function axis_op.Flatten = flatten_of
axis_function axis_op.LocalIndex = local_index_of
axis_function axis_op.IsNone = is_none_of
axis_function axis_op.DropNone = drop_none_of
axis_function axis_op.Firsts = firsts_of
axis_function axis_op.Singletons = singletons_of

-- on two truth values
abbrev pub logic_of : LogicOp → Logic
logic_of logic_op.And = logic.And
logic_of logic_op.Or = logic.Or
logic_of logic_op.Xor = logic.Xor

-- on one leaf
abbrev pub unary_by : SingleOp → Unary
unary_by single_op.Not = unary.Not
unary_by single_op.Neg = unary.Negate
unary_by single_op.Abs = unary.Absolute

-- what innermost lists are reduced by
abbrev pub reducer_of : ReduceOp → Reducer
reducer_of reduce_op.Sum = reducer.Sum
reducer_of reduce_op.Prod = reducer.Prod
reducer_of reduce_op.Min = reducer.Min
reducer_of reduce_op.Max = reducer.Max
reducer_of reduce_op.Argmin = reducer.Argmin
reducer_of reduce_op.Argmax = reducer.Argmax
reducer_of reduce_op.Any = reducer.Any
reducer_of reduce_op.All = reducer.All
reducer_of reduce_op.Count = reducer.Count
reducer_of reduce_op.CountNonzero = reducer.CountNonzero

-- whether places are given for items
abbrev pub are_places : Target → Bool
are_places target.Items = false
are_places target.Places = true

-- the items of innermost lists in order, or their places
abbrev pub sort_function : Target → Bool → Datum → Result Datum Fault
sort_function target.Items = sort_of
sort_function target.Places = argsort_of

-- whether each innermost list is counted by itself
abbrev pub is_each : Extent → Bool
is_each extent.Whole = false
is_each extent.Each = true

-- ---- other arguments beside them

-- lists padded by nulls to so many items, at an axis, cut or not
abbrev pub padded_by : ℕ × ℤ × Bool → Datum → Result Datum Fault
padded_by p d = pad_none_of p.0 (axis_in d p.1) p.2 d

-- nulls at an axis filled
abbrev pub filled_by : ℤ → Datum × Operand → Result Datum Fault
filled_by axis p = fill_none_of p.0 p.1 (axis_in p.0 axis)

-- an array where a mask over it is as asked, and null elsewhere
abbrev pub masked_by : Bool → Datum × Datum → Result Datum Fault
masked_by w p = put_mask_of p.0 p.1 w

-- an operation on two operands, leaf by leaf
abbrev pub calculated_by : Binary → Operand × Operand → Result Datum Fault
calculated_by o p = binary_of o p.0 p.1

abbrev pub joined_by : Logic → Datum × Datum → Result Datum Fault
joined_by o p = binary_of (Join o) (datum p.0) (datum p.1)

-- the items of two operands, as a third has it
abbrev pub choice_by : Datum × Operand × Operand → Result Datum Fault
choice_by p = choose_of p.0 p.1 p.2

-- tuples of the items of lists at an axis, or of their places
abbrev pub combined_by : Bool → ℕ × Bool × ℤ → Datum → Result Datum Fault
combined_by places p d = combinations_of p.0 p.1 (axis_in d p.2) places d

-- tuples of one item of each of several lists at an axis, or of their places
abbrev pub product_by : Bool → ℤ → List Datum → Result Datum Fault
product_by places axis ds = cartesian_of (axis_among ds axis) places ds

-- records of the items of several data, by names
abbrev pub zip_by : ℕ × List Name → List Datum → Result Datum Fault
zip_by p ds = zip_of p.0 (Some p.1) ds

-- and tuples
abbrev pub tuple_by : ℕ → List Datum → Result Datum Fault
tuple_by depth ds = zip_of depth None ds

-- a datum whose records have one field more, or another one in its place
abbrev pub put_by : Name → Datum × Datum → Result Datum Fault
put_by n p = with_field_of n p.0 p.1

-- a histogram of all leaves, or of each innermost list
abbrev pub histogram_by : Bool → List ℤ → Datum → Result Datum Fault
histogram_by each edges d = histogram edges each d

-- ---- the table

-- an operation on its operands
abbrev pub apply : Op → List FixedArg → List Operand → Result Datum Fault
apply (op.Place o) fixed operands = given (place_function o) (place_in fixed) (only_in operands)
apply op.Range fixed operands = alone (ranged (bounds_in fixed) fixed) (only_in operands)
apply op.Field fixed operands = given field_of (text_in fixed) (only_in operands)
apply op.Fields fixed operands = given fields_of (texts_in fixed) (only_in operands)
apply op.WithoutField fixed operands = given without_field_of (text_in fixed) (only_in operands)
apply (op.Pair o) fixed operands = alone (pair_function o) (both_in operands)
apply (op.Axis o) fixed operands =
    given (at_axis (axis_function o)) (place_in fixed) (only_in operands)
apply op.RunLengths fixed operands = alone run_lengths_of (only_in operands)
apply op.Zip fixed operands = given zip_by (named_in fixed) (data_in operands)
apply op.Tuple fixed operands = given tuple_by (depth_in fixed) (data_in operands)
apply op.WithField fixed operands = given put_by (text_in fixed) (both_in operands)
apply op.FillNone fixed operands = given filled_by (place_in fixed) (first_in operands)
apply op.PadNone fixed operands = given padded_by (padding_in fixed) (only_in operands)
apply op.PutMask fixed operands = given masked_by (truth_in fixed) (both_in operands)
apply op.Concatenate fixed operands =
    given (at_common_axis concatenate_of) (place_in fixed) (data_in operands)
apply (op.Calculate o) fixed operands = alone (calculated_by (Calculate o)) (two_in operands)
apply (op.Test how) fixed operands = alone (calculated_by (Test how)) (two_in operands)
apply (op.Join o) fixed operands = alone (joined_by (logic_of o)) (both_in operands)
apply (op.Single o) fixed operands = alone (unary_of (unary_by o)) (only_in operands)
apply op.Choose fixed operands = alone choice_by (three_in operands)
apply op.Cast fixed operands = given cast_of (primitive_in fixed) (only_in operands)
apply (op.Reduce how) fixed operands = alone (reduce_of (reducer_of how)) (only_in operands)
apply (op.Cartesian to) fixed operands =
    given (product_by (are_places to)) (place_in fixed) (data_in operands)
apply (op.Combinations to) fixed operands =
    given (combined_by (are_places to)) (tuples_in fixed) (only_in operands)
apply (op.Sort to) fixed operands = given (sort_function to) (truth_in fixed) (only_in operands)
apply (op.Hist of) fixed operands =
    given (histogram_by (is_each of)) (edges_in fixed) (only_in operands)

-- ---- expressions

-- a whole number is a literal where the operation takes one
abbrev pub operand_of : Bool → ExprTree → Result Datum Fault → Result Operand Fault
operand_of true (tree.whole z) evaluated = Ok (literal z)
operand_of _ e evaluated = mapped datum evaluated

abbrev pub joined : Result Operand Fault → Result (List Operand) Fault
    → Result (List Operand) Fault
joined first later = and_then (λ x. mapped (λ xs. x ∷ xs) later) first

abbrev mutual
  pub eval : Environment → ExprTree → Result Datum Fault
  eval env (tree.var n) = found n (look_up n env)
  eval env (tree.whole z) = int64_of z
  eval env (tree.truth b) = Ok (bool_of b)
  eval env (tree.call o es fixed) = and_then (apply o fixed) (operands env o 0 es)

  -- those from the k-th expression of an operation on, from left to right: the first fault is told
  pub operands : Environment → Op → ℕ → ExprTrees → Result (List Operand) Fault
  operands env o k no_exprs = Ok []
  operands env o k (expr e es) =
      joined (operand_of (takes_literal o k) e (eval env e)) (operands env o (suc k) es)
