use Rattle.std.proofs.Common.{◌≡◌, [], map, replicate}
use Rattle.std.specs.List.{AllByRecursion}
use Rattle.awk_merge_sides.specs.Sides.{sides_of, IsCounted}
use Rattle.awk_merge_sides.proofs.groups.Groups.new.Given as goal

abbrev pub invariant-loop-i : goal.invariant-loop-i
invariant-loop-i l =
    (map sides_of l.groups.items ≡ replicate l._i []) × AllByRecursion IsCounted l.groups.items
