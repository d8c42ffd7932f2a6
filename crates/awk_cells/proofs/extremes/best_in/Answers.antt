use Rattle.std.proofs.Common.{◌<◌, map, length, get_or, refl, ◌∙◌, arith, rules}
use Rattle.std.specs.Prelude.{pos, FitsSigned}
use Rattle.std.specs.Int.{w64, cast_signed as to_z, cast_unsigned as of_z}
use Rattle.std.proofs.lemmas.Int.{to_z-of_z}
use Rattle.std.proofs.lemmas.List.{length-map}
use Rattle.awk_numbers.proofs.ExtremeLaws.{first_alone}
use Rattle.awk_cells.specs.declared.extremes.Best.{Best}
use Rattle.awk_cells.proofs.ExtremeLaws.{better_more, best_found}
use Rattle.awk_cells.proofs.extremes.best_in.Goals as goal

pub loop-i-init : goal.loop-i-init
loop-i-init g c =
    let gs = c.args.groups.now in
    let f = g.C.Cell.number in
    let zs = map f gs in
    let y = c.number_at-first.result in
    let fits : FitsSigned w64 y = search rules in
    let some : 0 < length zs = omega (arith, c.requires.some, length-map gs f) in
    first_alone g.S.Side.how zs (to_z w64 (of_z w64 y)) some
    (to_z-of_z w64 y fits ∙ c.number_at-first.ensures)

pub loop-i-preserved : goal.loop-i-preserved
loop-i-preserved g c =
    let how = g.S.Side.how in
    let gs = c.args.groups.now in
    let i = c.loop-i.i in
    let y = c.number_at-number.result in
    let f : FitsSigned w64 y = search rules in
    let next : Best = record { place = i; number = to_z w64 (of_z w64 y) } in
    let read = ◌∙◌ {c = get_or (map g.C.Cell.number gs) i (pos 0)} (to_z-of_z w64 y f)
    c.number_at-number.ensures in
    better_more how g.C.Cell.number gs i c.loop-i.best next c.better-best.result
    c.better-best.ensures c.loop-i-test.true refl read c.loop-i.invariant

pub returns : goal.returns
returns g c =
    best_found g.S.Side.how g.C.Cell.number c.args.groups.now c.loop-i.i c.loop-i.best
    c.loop-i-test.false c.loop-i.invariant
