use Rattle.std.proofs.Common.{◌≡◌, ◌++◌, drop}
use Rattle.awk_unify.specs.View.{lift_of}
use Rattle.awk_merge_sides.specs.Groups.{groups_of, AreCounted}
use Rattle.awk_merge_rows.specs.Tagged.{with_alternatives, targets_of}
use Rattle.awk_merge_rows.proofs.unions.put_alternatives.Given as goal

-- put so far and what is left to put are all
abbrev pub invariant-loop-k : goal.invariant-loop-k
invariant-loop-k l =
    let f = lift_of l.side.lift in
    let left = drop l.k l.contents in
    AreCounted l.groups
    × (with_alternatives f l.k left (groups_of l.groups)
    ≡ with_alternatives f 0 l.contents (groups_of l.fn.groups))
    × (l.targets.items ++ targets_of f l.k left (groups_of l.groups)
    ≡ targets_of f 0 l.contents (groups_of l.fn.groups))
