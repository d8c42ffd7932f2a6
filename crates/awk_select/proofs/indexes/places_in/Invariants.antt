use Rattle.std.specs.Prelude.{◌≡◌, false, take}
use Rattle.std.specs.List.{list_any}
use Rattle.awk_lanes.specs.declared.kind.Kind.TheVariants.{I64}
use Rattle.awk_lanes.proofs.MadeLanes.{IsSoFar}
use Rattle.awk_layout.specs.Typing.{array_items}
use Rattle.awk_select.specs.Cells.{take_number}
use Rattle.awk_select.specs.Picks.{is_outside}
use Rattle.awk_select.proofs.indexes.places_in.Given as goal

-- the places that the items before this one name are made
abbrev pub invariant-loop-i : goal.invariant-loop-i
invariant-loop-i g l = record {
  made : IsSoFar I64 l.count (take_number l.n l.ix) l.i l.maker;
  inside : list_any (is_outside l.n) (take l.i (array_items l.ix)) ≡ false;
}
