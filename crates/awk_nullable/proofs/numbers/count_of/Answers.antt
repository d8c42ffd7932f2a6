use Rattle.std.proofs.Common.{◌∙◌, arith}
use Rattle.awk_nullable.proofs.CountLaws.{present-numbers, present-few}
use Rattle.awk_nullable.proofs.numbers.count_of.Goals as goal

pub returns-clause-present : goal.returns-clause-present
returns-clause-present g c =
    let lane = g.C.Cells.lane c.args.x.now.cells.now in
    let f = g.P.Places.at c.args.x.now.places.now in
    c.present.ensures ∙ present-numbers f lane c.args.first c.args.count

pub returns-clause-few : goal.returns-clause-few
returns-clause-few g c =
    let f = g.P.Places.at c.args.x.now.places.now in
    omega (arith, c.present.ensures, present-few f c.args.first c.args.count)
