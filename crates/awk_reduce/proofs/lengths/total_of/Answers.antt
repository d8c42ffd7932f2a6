use Rattle.std.proofs.Common.{arith}
use Rattle.awk_lanes.proofs.CountedLanes.{before-next}
use Rattle.awk_reduce.proofs.lengths.total_of.Goals as goal

pub loop-i-preserved : goal.loop-i-preserved
loop-i-preserved g c =
    let short = c.requires.short c.loop-i.i c.loop-i-test.true in
    record {
      total =
          omega (
            arith,
            before-next (g.S.Lengths.length c.args.source.now) c.loop-i.i,
            c.loop-i.invariant.total,
            c.length-total.ensures.length,
          );
      few = omega (arith, c.loop-i.invariant.few, c.length-total.ensures.length, short);
    }
