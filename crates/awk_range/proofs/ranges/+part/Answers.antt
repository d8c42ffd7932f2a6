-- The rows and the regular lists of a part, and the loop over contents.
use Rattle.std.proofs.Common.{arith, rules, ◌+◌}
use Rattle.awk_layout.specs.Contents.{AllReach-get, weight-get}
use Rattle.awk_range.proofs.RangeParts.{row_part_of, regular_part}
use Rattle.awk_range.proofs.Weights.{weights-take_more, weights-take-le}
use Rattle.awk_range.proofs.ranges.+part.Goals as goal

pub part-returns-in_ok-content-in-Regular-2-clause-part :
    goal.part-returns-in_ok-content-in-Regular-2-clause-part
part-returns-in_ok-content-in-Regular-2-clause-part g t c =
    regular_part _ _ _ _ _ _ _ _ c.in-Regular.ensures.class c.regular.ensures.node
    (rw c.in_ok-content-in-Regular-2.ensures.ok c.in_ok-content-in-Regular.ensures.part)
    c.requires.order

pub part-returns-in_ok-contents-in-Row-clause-part :
    goal.part-returns-in_ok-contents-in-Row-clause-part
part-returns-in_ok-contents-in-Row-clause-part g t c =
    row_part_of _ _ _ _ _ _ _ _ _ c.in-Row.ensures.class c.row.ensures.node
    c.in_ok-names-in-Row.ensures c.in_ok-contents-in-Row.ensures.parts

pub parts-part-requires : goal.parts-part-requires
parts-part-requires g t c κs within =
    let w = weight-get c.args.xs.now c.loop-i.i c.get.result.now c.get.ensures in
    let r = AllReach-get c.args.hi c.args.xs.now c.loop-i.i c.get.result.now c.get.ensures
    c.requires.within in
    search rules

pub parts-returns-in_err-part-clause-cost : goal.parts-returns-in_err-part-clause-cost
parts-returns-in_err-part-clause-cost g t c =
    let more = weights-take_more c.args.xs.now c.loop-i.i c.get.result.now c.get.ensures in
    let within = weights-take-le c.args.xs.now (c.loop-i.i + 1) in
    omega (arith, c.loop-i.invariant.cost, c.in_err-part.ensures.cost)

pub parts-returns-in_err-push-clause-cost : goal.parts-returns-in_err-push-clause-cost
parts-returns-in_err-push-clause-cost g t c =
    let more = weights-take_more c.args.xs.now c.loop-i.i c.get.result.now c.get.ensures in
    let within = weights-take-le c.args.xs.now (c.loop-i.i + 1) in
    omega (arith, c.loop-i.invariant.cost, c.in_ok-part.ensures.cost)
