use Rattle.std.proofs.Common.{◌≡◌, ◌++◌, map, take}
use Rattle.awk_lanes.specs.declared.kind.Kind.TheVariants as Kind
use Rattle.awk_sorting.specs.Cells.{place_of}
use Rattle.awk_sorting.proofs.places.push_places.Given as goal

abbrev pub invariant-loop-i : goal.invariant-loop-i
invariant-loop-i g l = record {
  kind : l.maker.kind ≡ Kind.I64;
  room : l.maker.room ≡ l.fn.maker.room;
  items : l.maker.items
      ≡ l.fn.maker.items ++ map place_of (map g.K.Number.number (take l.i l.keys));
}
