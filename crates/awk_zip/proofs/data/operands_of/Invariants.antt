use Rattle.std.proofs.Common.{◌≡◌, take, map}
use Rattle.awk_layout.specs.Datum.{datum_of}
use Rattle.awk_pair_operands.specs.First.{all_data}
use Rattle.awk_zip.proofs.data.operands_of.Given as goal

abbrev pub invariant-loop-i : goal.invariant-loop-i
invariant-loop-i l = all_data l.operands ≡ map datum_of (take l.i l.xs)
