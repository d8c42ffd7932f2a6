use Rattle.std.proofs.Common.{◌+◌, ◌*◌, take}
use Rattle.awk_layout.specs.Layout.{height, heights, layouts_from}
use Rattle.awk_gather.specs.Alike.{AreAllCopies}
use Rattle.awk_gather.proofs.alike.+copies.Given as goal

abbrev pub decreases-copies : goal.decreases-copies
decreases-copies g l = 2 * height l.x.now

abbrev pub decreases-copies_of_all : goal.decreases-copies_of_all
decreases-copies_of_all g l = 2 * heights (layouts_from l.xs.now) + 1

abbrev pub invariant-copies_of_all-loop-i : goal.invariant-copies_of_all-loop-i
invariant-copies_of_all-loop-i g l = AreAllCopies (take l.i l.xs) l.n l.made
