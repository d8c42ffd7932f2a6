use Rattle.std.proofs.Common.{arith, subst}
use Rattle.awk_lanes.specs.Numbers.{int_of, IsOf}
use Rattle.awk_lanes.specs.declared.kind.Kind.TheVariants as Kind
use Rattle.awk_lanes.proofs.CountedLanes.{places_more, places_room}
use Rattle.awk_columns.proofs.places.places_of.Goals as goal

pub push-requires-clause-room : goal.push-requires-clause-room
push-requires-clause-room g c =
    places_room (g.S.Lengths.length c.args.source.now) (g.S.Items.at c.args.source.now) Kind.I64
    c.args.n c.args.total c.loop-i.i c.loop-k.k c.loop-k.maker c.requires.total
    (omega (arith, c.loop-i-test.true)) (omega (arith, c.loop-k-test.true)) c.loop-k.invariant

pub push-requires-clause-kind : goal.push-requires-clause-kind
push-requires-clause-kind g c =
    subst (λ k. IsOf k c.item.result) c.requires.kind c.item.ensures.kind

pub loop-k-preserved : goal.loop-k-preserved
loop-k-preserved g c =
    places_more (g.S.Lengths.length c.args.source.now) (g.S.Items.at c.args.source.now) Kind.I64
    c.args.total c.loop-i.i c.loop-k.k (int_of c.item.result) c.loop-k.maker c.push.new.self
    c.push.ensures c.item.ensures.number c.loop-k.invariant
