use Rattle.std.proofs.Common.{ap, arith}
use Rattle.awk_lanes.specs.Places.{option_place_at}
use Rattle.awk_nullable.proofs.CountLaws.{one_some, present-more}
use Rattle.awk_nullable.proofs.places.narrow_present.Goals as goal

pub loop-i-preserved : goal.loop-i-preserved
loop-i-preserved c =
    let f = option_place_at c.args.index.now in
    record {
      present = omega (
        arith,
        c.loop-i.invariant.present,
        c.one_if_there.ensures.one,
        c.one_if_there.ensures.small,
        ap one_some c.option_place.ensures,
        present-more f c.args.first c.loop-i.i,
      );
      few = omega (arith, c.loop-i.invariant.few, c.one_if_there.ensures.small);
    }
