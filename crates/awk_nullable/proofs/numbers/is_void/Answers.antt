use Rattle.std.proofs.Common.{◌≡◌, sym, ◌∙◌, arith}
use Rattle.awk_nullable.proofs.CountLaws.{none_present}
use Rattle.awk_nullable.proofs.numbers.is_void.Goals as goal

pub returns : goal.returns
returns g c =
    let lane = g.C.Cells.lane c.args.x.now.cells.now in
    let f = g.P.Places.at c.args.x.now.places.now in
    λ e.
    let zero : c.present.result ≡ 0 = grind (arith, e) in
    none_present f lane c.args.first c.args.count (sym c.present.ensures ∙ zero)
