use Rattle.std.proofs.Common.{arith}
use Rattle.awk_lanes.specs.Places.{at}
use Rattle.awk_lanes.proofs.MadeLanes.{so_far_pushed, made_size}
use Rattle.awk_pack.proofs.column.truths.Goals as goal

pub loop-i-preserved : goal.loop-i-preserved
loop-i-preserved g c = so_far_pushed _ _ _ c.loop-i.i _ c.loop-i.maker c.push.new.self
    c.push.ensures c.at.ensures.number c.loop-i.invariant

pub push-requires-clause-room : goal.push-requires-clause-room
push-requires-clause-room g c =
    omega (
      arith,
      made_size (at c.args.lane.now) c.loop-i.i c.loop-i.maker.items
          c.loop-i.invariant.items,
      c.loop-i.invariant.room,
      c.loop-i-test.true,
      c.len-n.ensures.len,
    )

pub finish-requires : goal.finish-requires
finish-requires g c =
    omega (
      arith,
      made_size (at c.args.lane.now) c.loop-i.i c.loop-i.maker.items
          c.loop-i.invariant.items,
      c.loop-i.invariant.room,
      c.loop-i-test.false,
      c.loop-i.auto.i-end,
      c.len-n.ensures.len,
    )
