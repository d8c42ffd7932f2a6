use Rattle.std.proofs.Common.{arith}
use Rattle.awk_lanes.specs.Numbers.{int_of}
use Rattle.awk_lanes.proofs.CountedLanes.{places_more, places_room, places_done}
use Rattle.awk_lanes.proofs.counted.items_of.Goals as goal

pub finish-requires : goal.finish-requires
finish-requires g c =
    places_done (g.S.Lengths.length c.args.source.now) (g.S.Items.at c.args.source.now) c.args.kind
    c.args.n c.args.total c.loop-i.i c.loop-i.maker c.requires.total
    (omega (arith, c.loop-i-test.false)) c.loop-i.invariant

pub push-requires-clause-room : goal.push-requires-clause-room
push-requires-clause-room g c =
    places_room (g.S.Lengths.length c.args.source.now) (g.S.Items.at c.args.source.now) c.args.kind
    c.args.n c.args.total c.loop-i.i c.loop-k.k c.loop-k.maker c.requires.total
    (omega (arith, c.loop-i-test.true)) (omega (arith, c.loop-k-test.true)) c.loop-k.invariant

pub loop-k-preserved : goal.loop-k-preserved
loop-k-preserved g c =
    places_more (g.S.Lengths.length c.args.source.now) (g.S.Items.at c.args.source.now) c.args.kind
    c.args.total c.loop-i.i c.loop-k.k (int_of c.item.result) c.loop-k.maker c.push.new.self
    c.push.ensures c.item.ensures.number c.loop-k.invariant
