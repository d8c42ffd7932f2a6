use Rattle.std.proofs.Common.{◌+◌, refl, sym, subst, arith}
use Rattle.awk_nullable.specs.Halves.{IsSum}
use Rattle.awk_nullable.specs.Numbers.{leaf_number, numbers_from}
use Rattle.awk_nullable.proofs.HalvesLaws.{sum_after, sum_room}
use Rattle.awk_nullable.proofs.NumberLaws.{numbers-more}
use Rattle.awk_nullable.proofs.sums.sum_by.Goals as goal

pub loop-i-init : goal.loop-i-init
loop-i-init g c = record { exact = refl; high = omega arith; low = omega arith }

pub halves_by-requires-clause-ahead : goal.halves_by-requires-clause-ahead
halves_by-requires-clause-ahead g c =
    λ e. c.requires.ahead e c.loop-i.i c.loop-i-test.true

pub plus-sum-requires-clause-high : goal.plus-sum-requires-clause-high
plus-sum-requires-clause-high g c =
    sum_room c.loop-i.sum.high c.loop-i.i
    (omega (arith, c.loop-i-test.true, c.requires.items.few)) c.loop-i.invariant.high

pub plus-sum-requires-clause-low : goal.plus-sum-requires-clause-low
plus-sum-requires-clause-low g c =
    sum_room c.loop-i.sum.low c.loop-i.i
    (omega (arith, c.loop-i-test.true, c.requires.items.few)) c.loop-i.invariant.low

pub loop-i-preserved : goal.loop-i-preserved
loop-i-preserved g c =
    let lane = g.C.Cells.lane c.args.x.now.cells.now in
    let f = leaf_number (g.P.Places.at c.args.x.now.places.now) lane in
    let first = c.args.first in
    let i = c.loop-i.i in
    let sum = c.plus-sum.result in
    subst (IsSum (i + 1) sum) (sym (numbers-more f first i))
    (sum_after i c.loop-i.sum c.halves_by.result sum (f (first + i))
    (numbers_from f first i) c.plus-sum.ensures.high c.plus-sum.ensures.low
    c.halves_by.ensures c.loop-i.invariant)
