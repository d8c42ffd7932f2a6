use Rattle.std.proofs.Common.{arith}
use Rattle.awk_lanes.proofs.CountedLanes.{before-next}
use Rattle.awk_columns.specs.Lists.{length_of}
use Rattle.awk_jagged_places.proofs.room.items_within.Goals as goal

pub loop-i-preserved : goal.loop-i-preserved
loop-i-preserved c = record {
  total = omega (
    arith,
    before-next (length_of c.args.lists.now) c.loop-i.i,
    c.loop-i.invariant.total,
    c.length_at-length.ensures.length,
  );
  within = omega (arith, c.if-length-limit.false, c.loop-i.invariant.within);
}
