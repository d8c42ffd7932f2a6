use Rattle.std.proofs.Common.{◌+◌, ◌-◌, ◌*◌, ◌≤◌, length, take}
use Rattle.awk_layout.specs.Layout.{height, heights, layouts_from}
use Rattle.awk_spread.proofs.SpreadUnions.{AreSpread}
use Rattle.awk_spread.proofs.spread.+spread.Given as goal

abbrev pub decreases-alternatives : goal.decreases-alternatives
decreases-alternatives g l = 3 * height l.x.now + 1

-- a node is peeled before it is spread
abbrev pub decreases-spread_bare : goal.decreases-spread_bare
decreases-spread_bare g l = 3 * height l.x.now

abbrev pub decreases-spread_all : goal.decreases-spread_all
decreases-spread_all g l = 3 * heights (layouts_from l.contents.now) + 2

abbrev pub invariant-spread_all-loop-a : goal.invariant-spread_all-loop-a
invariant-spread_all-loop-a g l = record {
  within : l.a ≤ length l.contents;
  spread : AreSpread l.tags l.index l.places (take l.a l.contents) l.made_tags l.made_index l.made;
}

abbrev pub decreases-spread_all-loop-a : goal.decreases-spread_all-loop-a
decreases-spread_all-loop-a g l = length l.contents - l.a
