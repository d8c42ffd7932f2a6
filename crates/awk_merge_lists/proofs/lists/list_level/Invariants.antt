use Rattle.awk_merge_sides.specs.Sides.{sides_of}
use Rattle.awk_merge_lists.proofs.ListLaws.{IsListing}
use Rattle.awk_merge_lists.proofs.lists.list_level.Given as goal

abbrev pub invariant-loop-i : goal.invariant-loop-i
invariant-loop-i g l = IsListing (sides_of l.sides) l.i l.maker
