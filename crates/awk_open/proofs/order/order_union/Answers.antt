use Rattle.std.proofs.Common.{arith, ap, ◌∙◌}
use Rattle.awk_counts.specs.Counted.{tag_counts}
use Rattle.awk_layout.specs.Contents.{count-layouts_from}
use Rattle.awk_open.proofs.OrderedUnions.{union_tagged, union_opened, union_in_order}
use Rattle.awk_open.proofs.order.order_union.Goals as goal

pub counted_union-requires-clause-tagged : goal.counted_union-requires-clause-tagged
counted_union-requires-clause-tagged g c =
    union_tagged c.args.tags.now c.args.index.now c.args.contents.now c.requires.valid

pub counted_union-requires-clause-below : goal.counted_union-requires-clause-below
counted_union-requires-clause-below g c = λ i l. omega
    (arith, (c.requires.valid.1.tags i l).1, count-layouts_from c.args.contents.now, c.len.ensures)

pub taken_of_each-requires-clause-counts : goal.taken_of_each-requires-clause-counts
taken_of_each-requires-clause-counts g c =
    c.deref.ensures.value ∙ c.in_ok-counted.ensures.counts ∙ ap
    (tag_counts c.args.tags.now c.args.index.now) c.len.ensures

pub returns-clause-opened : goal.returns-clause-opened
returns-clause-opened g c x h =
    rw c.copy.ensures (union_opened x c.args.tags.now c.args.index.now
    c.in_ok-counted.counted.index c.args.contents.now c.in_ok-taken.taken h
    c.in_ok-counted.ensures.index c.in_ok-taken.ensures)

pub returns-clause-order : goal.returns-clause-order
returns-clause-order g c x h =
    rw c.copy.ensures (union_in_order x c.args.tags.now c.args.index.now
    c.in_ok-counted.counted.index c.args.contents.now c.in_ok-taken.taken h
    c.in_ok-counted.ensures.index c.in_ok-taken.ensures)
