use Rattle.std.proofs.Common.{◌+◌, ◌<◌, ◌≤◌, map, length, sym, ◌∙◌, subst, arith, rules}
use Rattle.std.specs.Prelude.{FitsSigned}
use Rattle.std.specs.Int.{w32, cast_signed as to_z, cast_unsigned as of_z}
use Rattle.std.proofs.lemmas.Int.{to_z-of_z}
use Rattle.std.proofs.lemmas.List.{length-map}
use Rattle.awk_numbers.proofs.ExtremeLaws.{first_alone}
use Rattle.awk_cells.proofs.ExtremeLaws.{HasFirst, number_more}
use Rattle.awk_cells.proofs.ExtremeParts.{extreme_read}
use Rattle.awk_cells.proofs.short.short_in.Goals as goal

pub loop-i-init : goal.loop-i-init
loop-i-init g c =
    let gs = c.args.groups.now in
    let zs = map g.C.Cell.number gs in
    let y = c.short_at-best.result in
    let fits : FitsSigned w32 y = search rules in
    let some : 0 < length zs = omega (arith, c.requires.some, length-map gs g.C.Cell.number) in (
      0,
      first_alone g.S.Side.how zs (to_z w32 (of_z w32 y)) some
          (to_z-of_z w32 y fits ∙ c.short_at-best.ensures),
    )

pub loop-i-preserved : goal.loop-i-preserved
loop-i-preserved g c =
    let how = g.S.Side.how in
    let gs = c.args.groups.now in
    let zs = map g.C.Cell.number gs in
    let i = c.loop-i.i in
    let old = to_z w32 c.loop-i.best-bits in
    let new = c.better-best.result in
    let y = c.short_at.result in
    let here : FitsSigned w32 y = search rules in
    let fits : FitsSigned w32 new = search rules in
    let inside : i < length zs = omega (arith, c.loop-i-test.true, length-map gs g.C.Cell.number) in
    subst (HasFirst how zs (i + 1)) (sym (to_z-of_z w32 new fits))
    (number_more how zs i old (to_z w32 (of_z w32 y)) new c.better-best.ensures inside
    (to_z-of_z w32 y here ∙ c.short_at.ensures) c.loop-i.invariant)

pub returns : goal.returns
returns g c =
    let gs = c.args.groups.now in
    let zs = map g.C.Cell.number gs in
    let end : length zs ≤ c.loop-i.i =
    omega (arith, c.loop-i-test.false, length-map gs g.C.Cell.number) in
    extreme_read g.S.Side.how zs c.loop-i.i (to_z w32 c.loop-i.best-bits) end c.loop-i.invariant
