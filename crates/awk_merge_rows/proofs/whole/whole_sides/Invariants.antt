use Rattle.std.proofs.Common.{take}
use Rattle.awk_merge_rows.specs.PresentLevels.{IsWholeLevel}
use Rattle.awk_merge_sides.specs.Sides.{sides_of, IsCounted}
use Rattle.awk_merge_rows.proofs.whole.whole_sides.Given as goal

abbrev pub invariant-loop-i : goal.invariant-loop-i
invariant-loop-i l = record {
  counted : IsCounted l.present;
  whole : IsWholeLevel (take l.i (sides_of l.sides)) (sides_of l.present);
}
