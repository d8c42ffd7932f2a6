use Rattle.std.proofs.Common.{ap, ◌∙◌, rules}
use Rattle.std.specs.Prelude.{FitsSigned}
use Rattle.std.specs.Int.{w64, cast_signed as to_z, cast_unsigned as of_z}
use Rattle.std.proofs.lemmas.Int.{to_z-of_z}
use Rattle.awk_nullable.specs.Extremes.{leaf_key, number_place}
use Rattle.awk_nullable.proofs.PlacedLaws.{key_placed, place_there}
use Rattle.awk_nullable.proofs.extremes.place_by_side.Goals as goal

pub returns-then-placed-count-clause-place : goal.returns-then-placed-count-clause-place
returns-then-placed-count-clause-place g c =
    let f = g.P.Places.at c.args.x.now.places.now in
    let lane = g.C.Cells.lane c.args.x.now.cells.now in
    let s = g.C.Cells.shift c.args.x.now.cells.now in
    let worst = to_z w64 (of_z w64 c.args.worst) in
    let placed = c.placed_among-placed.result in
    let laws = c.placed_among-placed.ensures in
    place_there g.S.Side.how f lane s worst c.args.first c.args.count placed.found.key
    placed.place c.if-placed-count.true laws.place
    ∙ key_placed g.S.Side.how f lane s worst c.args.first c.args.count placed.found.key
    placed.found.some c.if-not-placed.false laws.found

pub returns-clause-place : goal.returns-clause-place
returns-clause-place g c =
    let f = g.P.Places.at c.args.x.now.places.now in
    let lane = g.C.Cells.lane c.args.x.now.cells.now in
    let s = g.C.Cells.shift c.args.x.now.cells.now in
    let worst = to_z w64 (of_z w64 c.args.worst) in
    let placed = c.placed_among-placed.result in
    let key = placed.found.key in
    let fits : FitsSigned w64 key = search rules in
    c.place_among.ensures.place
    ∙ ap (number_place (leaf_key f lane s) c.args.first c.args.count) (to_z-of_z w64 key fits)
    ∙ key_placed g.S.Side.how f lane s worst c.args.first c.args.count key
    placed.found.some c.if-not-placed.false c.placed_among-placed.ensures.found
