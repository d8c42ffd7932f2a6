use Rattle.awk_types.specs.DataType.{types_from}
use Rattle.awk_types.specs.Simple.{AreSimple}
use Rattle.awk_types.specs.View.{typs_of}
use Rattle.awk_cartesian.proofs.TypeLaws.{AreFirst}
use Rattle.awk_cartesian.proofs.typing.slot_typs.Given as goal

abbrev pub invariant-loop-j : goal.invariant-loop-j
invariant-loop-j l = record {
  types : AreFirst l.axis l.places l.xs l.j (typs_of l.types);
  simple : AreSimple (types_from (typs_of l.types));
}
