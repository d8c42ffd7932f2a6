use Rattle.std.proofs.Common.{arith}
use Rattle.std.proofs.lemmas.List.Sums.{count_by-le-length}
use Rattle.awk_lanes.specs.Numbers.{is_nonzero}
use Rattle.awk_nullable.specs.Numbers.{leaf_number, numbers_from}
use Rattle.awk_nullable.proofs.NumberLaws.{numbers-few}
use Rattle.awk_nullable.proofs.totals.nonzero_of.Goals as goal

pub returns-clause-few : goal.returns-clause-few
returns-clause-few g c =
    let lane = g.C.Cells.lane c.args.x.now.cells.now in
    let f = leaf_number (g.P.Places.at c.args.x.now.places.now) lane in
    let zs = numbers_from f c.args.first c.args.count in
    omega (
      arith,
      c.total_of.ensures,
      count_by-le-length is_nonzero zs,
      numbers-few f c.args.first c.args.count,
    )
