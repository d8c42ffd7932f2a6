use Rattle.awk_types.specs.DataType.{depths}
use Rattle.awk_types.specs.View.{fields_of, types_of}
use Rattle.awk_put_field.proofs.LimitLaws.{IsDeepest}
use Rattle.awk_put_field.proofs.limits.deepest_with.Given as goal

abbrev pub invariant-loop-i : goal.invariant-loop-i
invariant-loop-i l =
    IsDeepest l.place l.new (depths (types_of (fields_of l.fields))) l.i l.deepest
