use Rattle.std.proofs.Common.{◌≡◌, ap, sym, ◌∙◌, arith, rules}
use Rattle.std.specs.Prelude.{FitsSigned, Some}
use Rattle.std.specs.Int.{w64, w128, cast_signed as to_z, cast_unsigned as of_z}
use Rattle.std.proofs.lemmas.Int.{ints, to_z-of_z}
use Rattle.awk_lanes.specs.Places.{at}
use Rattle.awk_nullable.proofs.keys.keyed_number.Goals as goal

pub returns-in-Some : goal.returns-in-Some
returns-in-Some g c =
    let lane = g.C.Cells.lane c.args.x.now.cells.now in
    let there = c.in-Some.ensures in
    let z = c.number_of_key.result in
    let key = c.in-Some.key in
    let gap = c.shift.result in
    let z_fits : FitsSigned w128 z = search rules in
    let key_fits : FitsSigned w64 key = search rules in
    let gap_fits : FitsSigned w64 gap = search rules in
    let number : to_z w128 (of_z w128 z) ≡ at lane there.0 =
    omega (
      arith,
      ints,
      to_z-of_z w128 z z_fits,
      to_z-of_z w64 key key_fits,
      to_z-of_z w64 gap gap_fits,
      c.number_of_key.ensures,
      c.shift.ensures,
      there.3,
    ) in
    (there.0, there.1, there.2 ∙ ap Some (sym number), number)
