use Rattle.std.proofs.Common.{sym, subst}
use Rattle.awk_nullable_lists.specs.Nullable.{AreLeaves}
use Rattle.awk_reduce.proofs.nullable.reduced_wide.Goals as goal

pub reduced_by-requires-clause-lane : goal.reduced_by-requires-clause-lane
reduced_by-requires-clause-lane g c = sym c.in_ok-cells.ensures

pub reduced_by-requires-clause-leaves : goal.reduced_by-requires-clause-leaves
reduced_by-requires-clause-leaves g c =
    let places = c.args.places.now in
    subst (AreLeaves c.args.bounds.now.content (g.P.Places.at places) (g.P.Places.size places))
    (sym c.in_ok-cells.ensures) c.requires.leaves
