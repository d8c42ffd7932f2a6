use Rattle.std.specs.Prelude.{◌≡◌, replicate}
use Rattle.awk_types.specs.View.{typ_of, typs_of}
use Rattle.awk_combi.proofs.typing.slot_typs.Given as goal

abbrev pub invariant-loop-i : goal.invariant-loop-i
invariant-loop-i l = typs_of l.parts ≡ replicate l.i (typ_of l.slot)
