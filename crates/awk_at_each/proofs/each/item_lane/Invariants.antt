use Rattle.awk_lanes.specs.declared.kind.Kind.TheVariants.{I64}
use Rattle.awk_lanes.proofs.MadeLanes.{IsSoFar}
use Rattle.awk_at_each.specs.Each.{item_number, AllHave}
use Rattle.awk_at_each.proofs.each.item_lane.Given as goal

abbrev pub invariant-loop-j : goal.invariant-loop-j
invariant-loop-j g l = record {
  made : IsSoFar I64 l.n
      (item_number l.i l.lists.starts l.lists.stops (g.S.AtPlaces.at l.source)) l.j l.maker;
  have : AllHave l.i l.lists.starts l.lists.stops l.j;
}
