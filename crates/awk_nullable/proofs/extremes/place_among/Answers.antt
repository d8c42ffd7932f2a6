use Rattle.std.proofs.Common.{ap, ◌∙◌}
use Rattle.std.specs.Int.{w64, cast_signed as to_z, cast_unsigned as of_z}
use Rattle.std.proofs.lemmas.Int.{to_z-of_z}
use Rattle.awk_nullable.specs.Extremes.{leaf_key, number_place}
use Rattle.awk_nullable.proofs.extremes.place_among.Goals as goal

pub returns-then-is_ahead-clause-place : goal.returns-then-is_ahead-clause-place
returns-then-is_ahead-clause-place g c =
    let lane = g.C.Cells.lane c.args.x.now.cells.now in
    let s = g.C.Cells.shift c.args.x.now.cells.now in
    let f = leaf_key (g.P.Places.at c.args.x.now.places.now) lane s in
    c.item_of.ensures.item
    (number_place f c.args.first c.args.count (to_z w64 (of_z w64 c.args.key))) c.place_by.ensures
    ∙ ap (number_place f c.args.first c.args.count) (to_z-of_z w64 c.args.key c.ranges.key)

pub returns-clause-place : goal.returns-clause-place
returns-clause-place g c =
    let lane = g.C.Cells.lane c.args.x.now.cells.now in
    let s = g.C.Cells.shift c.args.x.now.cells.now in
    let f = leaf_key (g.P.Places.at c.args.x.now.places.now) lane s in
    c.item_of-2.ensures.item
    (number_place f c.args.first c.args.count (to_z w64 (of_z w64 c.args.key))) c.place_by-2.ensures
    ∙ ap (number_place f c.args.first c.args.count) (to_z-of_z w64 c.args.key c.ranges.key)
