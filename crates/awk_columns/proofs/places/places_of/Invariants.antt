use Rattle.awk_lanes.specs.declared.kind.Kind.TheVariants as Kind
use Rattle.awk_lanes.proofs.CountedLanes.{ArePlaces, ArePlacesIn}
use Rattle.awk_columns.proofs.places.places_of.Given as goal

abbrev pub invariant-loop-i : goal.invariant-loop-i
invariant-loop-i g l =
    ArePlaces (g.S.Lengths.length l.source) (g.S.Items.at l.source) Kind.I64 l.total l.i l.maker

abbrev pub invariant-loop-k : goal.invariant-loop-k
invariant-loop-k g l =
    ArePlacesIn (g.S.Lengths.length l.source) (g.S.Items.at l.source) Kind.I64 l.total l.i l.k
    l.maker
