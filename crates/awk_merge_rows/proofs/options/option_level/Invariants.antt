use Rattle.std.proofs.Common.{◌≡◌, length, take}
use Rattle.awk_lanes.specs.declared.kind.Kind.TheVariants.{I64}
use Rattle.awk_merge_rows.specs.Present.{ArePresent}
use Rattle.awk_merge_sides.specs.Sides.{sides_of, merged_items, IsCounted}
use Rattle.awk_merge_rows.proofs.options.option_level.Given as goal

abbrev pub invariant-loop-i : goal.invariant-loop-i
invariant-loop-i g l = record {
  counted : IsCounted l.present;
  kind : l.maker.kind ≡ I64;
  room : l.maker.room ≡ length (merged_items (sides_of l.sides));
  present : ArePresent (take l.i (sides_of l.sides)) (sides_of l.present) l.maker.items;
}
