use Rattle.std.proofs.Common.{◌++◌, ap, sym, ◌∙◌, subst, arith}
use Rattle.awk_nullable.specs.Numbers.{leaf_number, number_list, numbers_from}
use Rattle.awk_nullable.proofs.NumberLaws.{numbers-more, numbers-few}
use Rattle.awk_nullable.proofs.numbers.total_by.Goals as goal

pub after-total-requires-clause-few : goal.after-total-requires-clause-few
after-total-requires-clause-few g c =
    let lane = g.C.Cells.lane c.args.x.now.cells.now in
    let f = leaf_number (g.P.Places.at c.args.x.now.places.now) lane in
    let few = numbers-few f c.args.first c.loop-i.i in (
      numbers_from f c.args.first c.loop-i.i,
      c.loop-i.invariant,
      omega (arith, few, c.loop-i-test.true, c.requires.items.few),
    )

pub number_by-requires-clause-ahead : goal.number_by-requires-clause-ahead
number_by-requires-clause-ahead g c =
    λ e. c.requires.ahead e c.loop-i.i c.loop-i-test.true

pub loop-i-preserved : goal.loop-i-preserved
loop-i-preserved g c =
    let lane = g.C.Cells.lane c.args.x.now.cells.now in
    let f = leaf_number (g.P.Places.at c.args.x.now.places.now) lane in
    let zs = numbers_from f c.args.first c.loop-i.i in
    subst (g.T.Total.IsOf c.after-total.result)
    (ap (λ o. zs ++ number_list o) c.number_by.ensures.number
    ∙ sym (numbers-more f c.args.first c.loop-i.i))
    (c.after-total.ensures zs c.loop-i.invariant)
