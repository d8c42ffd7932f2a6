use Rattle.std.proofs.Common.{◌≤◌}
use Rattle.awk_sorting.specs.Cells.{AreRanked}
use Rattle.awk_sorting.proofs.ranks.reach_of.Given as goal

abbrev pub invariant-loop-i : goal.invariant-loop-i
invariant-loop-i g l = record {
  ranked : AreRanked l.up (g.R.Row.lane l.row) (g.R.Row.index l.row) l.i l.reach.least
      l.reach.last;
  bound : l.reach.last ≤ 73786976294838206464;
}
