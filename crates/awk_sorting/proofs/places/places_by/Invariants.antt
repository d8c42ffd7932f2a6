use Rattle.std.proofs.Common.{◌≡◌}
use Rattle.awk_lanes.specs.declared.kind.Kind.TheVariants as Kind
use Rattle.awk_sorting.proofs.CellLaws.{AreOrdered}
use Rattle.awk_sorting.proofs.places.places_by.Given as goal

abbrev pub invariant-loop-i : goal.invariant-loop-i
invariant-loop-i g l = record {
  kind : l.maker.kind ≡ Kind.I64;
  room : l.maker.room ≡ l.ranks.count;
  items : AreOrdered l.ranks.up (g.R.Row.lane l.ranks.row.now) (g.R.Row.index l.ranks.row.now)
      l.offsets l.i l.maker.items;
}
