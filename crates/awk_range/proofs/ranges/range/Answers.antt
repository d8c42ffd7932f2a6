-- The items of the part.
use Rattle.awk_range.specs.Range.{IsPart}
use Rattle.awk_range.proofs.RangeParts.{array_items_part}
use Rattle.awk_range.proofs.ranges.range.Goals as goal

pub returns-clause-items : goal.returns-clause-items
returns-clause-items g c =
    let part : IsPart c.args.x.now c.args.lo c.args.hi c.with_type.result = rw
    (c.with_type.ensures, ← c.node.ensures) c.in_ok-node.ensures.part in
    array_items_part _ _ _ _ part c.requires.order c.requires.within
