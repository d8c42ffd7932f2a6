use Rattle.std.proofs.Common.{List, ℤ, sym, arith}
use Rattle.awk_nullable.specs.Numbers.{leaf_number, numbers_from}
use Rattle.awk_nullable.proofs.TruthLaws.{none_zero, some_zero}
use Rattle.awk_nullable.proofs.totals.is_block_true.Goals as goal

pub returns-then-zeros_of-gt0 : goal.returns-then-zeros_of-gt0
returns-then-zeros_of-gt0 g c =
    let lane = g.C.Cells.lane c.args.x.now.cells.now in
    let f = leaf_number (g.P.Places.at c.args.x.now.places.now) lane in
    let zs : List ℤ = numbers_from f c.args.first c.args.count in
    sym (some_zero zs (omega (arith, c.zeros_of.ensures, c.if-zeros_of-gt0.true)))

pub returns : goal.returns
returns g c =
    let lane = g.C.Cells.lane c.args.x.now.cells.now in
    let f = leaf_number (g.P.Places.at c.args.x.now.places.now) lane in
    let zs : List ℤ = numbers_from f c.args.first c.args.count in
    sym (none_zero zs (omega (arith, c.zeros_of.ensures, c.if-zeros_of-gt0.false)))
