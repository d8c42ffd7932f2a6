use Rattle.std.proofs.Common.{ap, sym, ◌∙◌, rules}
use Rattle.std.specs.Prelude.{FitsSigned}
use Rattle.std.specs.Int.{w64}
use Rattle.std.specs.Option.{option_and_then}
use Rattle.std.proofs.lemmas.Int.{to_z-of_z}
use Rattle.awk_lanes.specs.Places.{at}
use Rattle.awk_nullable.specs.Extremes.{leaf_key, number_place}
use Rattle.awk_nullable.specs.Numbers.{leaf_number}
use Rattle.awk_nullable.proofs.FindLaws.{place-key}
use Rattle.awk_nullable.proofs.extremes.place_twice.Goals as goal

pub returns-in-Some-clause-place : goal.returns-in-Some-clause-place
returns-in-Some-clause-place g c =
    let f = g.P.Places.at c.args.x.now.places.now in
    let lane = g.C.Cells.lane c.args.x.now.cells.now in
    let s = g.C.Cells.shift c.args.x.now.cells.now in
    let first = c.args.first in
    let count = c.args.count in
    let there = c.in-Some.ensures in
    let key = c.in-Some.key in
    let fits : FitsSigned w64 key = search rules in
    c.place_among.ensures.place
    ∙ ap (number_place (leaf_key f lane s) first count) (to_z-of_z w64 key fits ∙ there.3)
    ∙ place-key f lane s (at lane there.0) first count
    ∙ sym (ap (option_and_then (number_place (leaf_number f lane) first count)) there.2)
