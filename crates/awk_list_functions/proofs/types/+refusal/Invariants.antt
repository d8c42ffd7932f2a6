use Rattle.std.proofs.Common.{◌≡◌, drop}
use Rattle.awk_types.specs.DataType.{types_from}
use Rattle.awk_types.specs.View.{types_of, fields_of, typs_of}
use Rattle.awk_list_functions.specs.Causes.{sooner}
use Rattle.awk_list_functions.specs.Lift.{refusal_among}
use Rattle.awk_list_functions.proofs.types.+refusal.Given as goal

abbrev pub invariant-refusal_of_all-loop-i : goal.invariant-refusal_of_all-loop-i
invariant-refusal_of_all-loop-i g l =
    sooner l.first (refusal_among (g.F.ListOp.function l.f) l.k
    (types_from (drop l.i (typs_of l.ts)))) ≡ refusal_among (g.F.ListOp.function l.f) l.k
    (types_from (typs_of l.ts))

abbrev pub invariant-refusal_of_fields-loop-i : goal.invariant-refusal_of_fields-loop-i
invariant-refusal_of_fields-loop-i g l =
    sooner l.first (refusal_among (g.F.ListOp.function l.f) l.k
    (types_of (drop l.i (fields_of l.fields)))) ≡ refusal_among (g.F.ListOp.function l.f) l.k
    (types_of (fields_of l.fields))
