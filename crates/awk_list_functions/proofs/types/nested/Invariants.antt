use Rattle.std.proofs.Common.{◌≡◌}
use Rattle.awk_types.specs.View.{typ_of}
use Rattle.awk_list_functions.specs.Lift.{nested as nested_type}
use Rattle.awk_list_functions.proofs.types.nested.Given as goal

abbrev pub invariant-loop-i : goal.invariant-loop-i
invariant-loop-i l = typ_of l.made ≡ nested_type l.i (typ_of l.fn.t)
