-- Which arguments are an operation's own.
use Rattle.std.specs.Prelude.{◌≡◌, true, List, Option, None, is_some}
use Rattle.awk_expr.specs.declared.op.Op.{Op}
use Rattle.awk_expr.specs.declared.op.Op.TheVariants as op
use Rattle.awk_expr.specs.declared.fixed.FixedArg.{FixedArg}
use Rattle.awk_arguments.specs.Fixed.{bounds_in, stepped_in, place_in, text_in, texts_in}
use Rattle.awk_arguments.specs.Fixed.{truth_in, padding_in, tuples_in, depth_in, named_in, edges_in}
use Rattle.awk_arguments.specs.Operand.{Operand, only_in, both_in, first_in, two_in, three_in}
use Rattle.awk_arguments.specs.Operand.{data_in}
use Rattle.awk_arguments.specs.Primitives.{primitive_in}

abbrev pub IsGiven : {A : Type 0} → Option A → Type 0
IsGiven found = is_some found ≡ true

-- a range has bounds, and a step where it is not 1
abbrev pub IsRange : List FixedArg → Type 0
IsRange fixed = bounds_in fixed ≡ None → IsGiven (stepped_in fixed)

-- those that are no expressions
abbrev pub FitsFixed : Op → List FixedArg → Type 0
FitsFixed (op.Place o) fixed = IsGiven (place_in fixed)
FitsFixed op.Range fixed = IsRange fixed
FitsFixed op.Field fixed = IsGiven (text_in fixed)
FitsFixed op.Fields fixed = IsGiven (texts_in fixed)
FitsFixed op.WithoutField fixed = IsGiven (text_in fixed)
FitsFixed (op.Axis o) fixed = IsGiven (place_in fixed)
FitsFixed op.Zip fixed = IsGiven (named_in fixed)
FitsFixed op.Tuple fixed = IsGiven (depth_in fixed)
FitsFixed op.WithField fixed = IsGiven (text_in fixed)
FitsFixed op.FillNone fixed = IsGiven (place_in fixed)
FitsFixed op.PadNone fixed = IsGiven (padding_in fixed)
FitsFixed op.PutMask fixed = IsGiven (truth_in fixed)
FitsFixed op.Concatenate fixed = IsGiven (place_in fixed)
FitsFixed op.Cast fixed = IsGiven (primitive_in fixed)
FitsFixed (op.Cartesian to) fixed = IsGiven (place_in fixed)
FitsFixed (op.Combinations to) fixed = IsGiven (tuples_in fixed)
FitsFixed (op.Sort to) fixed = IsGiven (truth_in fixed)
FitsFixed (op.Hist of) fixed = IsGiven (edges_in fixed)
FitsFixed (op.Pair o) fixed = Unit {0}
FitsFixed op.RunLengths fixed = Unit {0}
FitsFixed (op.Calculate o) fixed = Unit {0}
FitsFixed (op.Test how) fixed = Unit {0}
FitsFixed (op.Join o) fixed = Unit {0}
FitsFixed (op.Single o) fixed = Unit {0}
FitsFixed op.Choose fixed = Unit {0}
FitsFixed (op.Reduce how) fixed = Unit {0}

-- those that are
abbrev pub FitsOperands : Op → List Operand → Type 0
FitsOperands (op.Pair o) operands = IsGiven (both_in operands)
FitsOperands op.Zip operands = IsGiven (data_in operands)
FitsOperands op.Tuple operands = IsGiven (data_in operands)
FitsOperands op.WithField operands = IsGiven (both_in operands)
FitsOperands op.FillNone operands = IsGiven (first_in operands)
FitsOperands op.PutMask operands = IsGiven (both_in operands)
FitsOperands op.Concatenate operands = IsGiven (data_in operands)
FitsOperands (op.Calculate o) operands = IsGiven (two_in operands)
FitsOperands (op.Test how) operands = IsGiven (two_in operands)
FitsOperands (op.Join o) operands = IsGiven (both_in operands)
FitsOperands op.Choose operands = IsGiven (three_in operands)
FitsOperands (op.Cartesian to) operands = IsGiven (data_in operands)
FitsOperands (op.Place o) operands = IsGiven (only_in operands)
FitsOperands op.Range operands = IsGiven (only_in operands)
FitsOperands op.Field operands = IsGiven (only_in operands)
FitsOperands op.Fields operands = IsGiven (only_in operands)
FitsOperands op.WithoutField operands = IsGiven (only_in operands)
FitsOperands (op.Axis o) operands = IsGiven (only_in operands)
FitsOperands op.RunLengths operands = IsGiven (only_in operands)
FitsOperands op.PadNone operands = IsGiven (only_in operands)
FitsOperands (op.Single o) operands = IsGiven (only_in operands)
FitsOperands op.Cast operands = IsGiven (only_in operands)
FitsOperands (op.Reduce how) operands = IsGiven (only_in operands)
FitsOperands (op.Combinations to) operands = IsGiven (only_in operands)
FitsOperands (op.Sort to) operands = IsGiven (only_in operands)
FitsOperands (op.Hist of) operands = IsGiven (only_in operands)
