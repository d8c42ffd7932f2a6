use Rattle.std.specs.Prelude.{false}
use Rattle.std.proofs.Common.{subst}
use Rattle.awk_jagged_places.specs.Leaves.{AreTestedIn}
use Rattle.awk_jagged_rows.proofs.FlatPlaces.{one_more}
use Rattle.awk_jagged_places.proofs.places.Taken.has_outside.Goals as goal

pub loop-i-preserved : goal.loop-i-preserved
loop-i-preserved g c =
    one_more (λ j. AreTestedIn c.args.self.now.xs.now c.args.self.now.ws.now j false)
    c.loop-i.i c.loop-i.invariant
    (subst (AreTestedIn c.args.self.now.xs.now c.args.self.now.ws.now c.loop-i.i)
    c.if-is_outside_in.false c.is_outside_in.ensures)
