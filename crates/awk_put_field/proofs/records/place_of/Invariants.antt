use Rattle.std.proofs.Common.{◌≡◌, ◌+◌, drop}
use Rattle.awk_types.specs.Names.{place_of as place_in}
use Rattle.awk_put_field.proofs.records.place_of.Given as goal

abbrev pub invariant-loop-i : goal.invariant-loop-i
invariant-loop-i l = place_in l.name l.names ≡ l.i + place_in l.name (drop l.i l.names)
