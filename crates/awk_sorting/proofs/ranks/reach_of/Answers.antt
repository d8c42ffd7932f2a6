use Rattle.std.proofs.Common.{arith}
use Rattle.awk_sorting.proofs.CellLaws.{none_ranked, ranked_more}
use Rattle.awk_sorting.proofs.ranks.reach_of.Goals as goal

pub loop-i-init : goal.loop-i-init
loop-i-init g c = record {
  ranked =
      none_ranked c.args.up (g.R.Row.lane c.args.row.now) (g.R.Row.index c.args.row.now)
      73786976294838206464 0;
  bound = omega arith;
}

pub loop-i-preserved : goal.loop-i-preserved
loop-i-preserved g c = record {
  ranked =
      ranked_more c.args.up (g.R.Row.lane c.args.row.now) (g.R.Row.index c.args.row.now) c.loop-i.i
      c.loop-i.reach.least c.loop-i.reach.last c.with_cell-reach.result.least
      c.with_cell-reach.result.last c.number.result c.loop-i.invariant.ranked
      c.with_cell-reach.ensures.least c.with_cell-reach.ensures.last c.number.ensures.number
      c.with_cell-reach.ensures.cell;
  bound = c.with_cell-reach.ensures.bound;
}
