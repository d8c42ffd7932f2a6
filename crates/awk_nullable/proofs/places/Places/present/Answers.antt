use Rattle.std.proofs.Common.{ap, arith}
use Rattle.awk_nullable.proofs.CountLaws.{one_some, present-more}
use Rattle.awk_nullable.proofs.places.Places.present.Goals as goal

pub loop-i-preserved : goal.loop-i-preserved
loop-i-preserved g c =
    let f = g.Self.Places.at c.args.self.now in
    record {
      present = omega (
        arith,
        c.loop-i.invariant.present,
        c.one_if_there-present.ensures.one,
        ap one_some c.place.ensures,
        present-more f c.args.first c.loop-i.i,
      );
      few = omega (arith, c.loop-i.invariant.few, c.one_if_there-present.ensures.small);
    }
