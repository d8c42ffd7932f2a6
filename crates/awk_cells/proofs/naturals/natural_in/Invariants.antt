use Rattle.std.proofs.Common.{map}
use Rattle.std.specs.Prelude.{pos}
use Rattle.awk_lanes.specs.Numbers.{number}
use Rattle.awk_lanes.specs.declared.kind.Kind.TheVariants as Kind
use Rattle.awk_cells.proofs.ExtremeLaws.{HasFirst}
use Rattle.awk_cells.proofs.naturals.natural_in.Given as goal

abbrev pub invariant-loop-i : goal.invariant-loop-i
invariant-loop-i g l = HasFirst g.S.Side.how (map (number Kind.U64) l.groups) l.i (pos l.best)
