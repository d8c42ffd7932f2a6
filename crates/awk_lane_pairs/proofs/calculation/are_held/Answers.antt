use Rattle.std.proofs.Common.{refl, arith}
use Rattle.awk_lane_pairs.proofs.ResultLaws.{held_more}
use Rattle.awk_lane_pairs.proofs.calculation.are_held.Goals as goal

pub loop-i-preserved : goal.loop-i-preserved
loop-i-preserved g c = record {
  end = refl;
  held = held_more g.O.Exact.op g.N.Narrow.prim c.args.a.now c.args.b.now c.loop-i.i c.loop-i.held
      c.is_held-held.result c.loop-i.invariant.held c.is_held-held.ensures;
}

pub returns : goal.returns
returns g c t i q = c.loop-i.invariant.held t i (omega (arith, q, c.loop-i-test.false))
