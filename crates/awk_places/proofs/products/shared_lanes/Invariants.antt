use Rattle.std.specs.Prelude.{◌≡◌}
use Rattle.awk_places.specs.Products.{AreCounts}
use Rattle.awk_places.proofs.ProductLaws.{AreRests, first_lanes}
use Rattle.awk_places.proofs.products.shared_lanes.Given as goal

abbrev pub invariant-loop-j : goal.invariant-loop-j
invariant-loop-j g l = record {
  counts : AreCounts l.n l.rests;
  rests : AreRests l.n l.lengths l.j l.rests;
  lanes : l.lanes ≡ first_lanes l.n l.firsts l.lengths l.j;
}
