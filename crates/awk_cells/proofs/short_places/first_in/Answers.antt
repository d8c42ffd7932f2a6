use Rattle.std.proofs.Common.{◌+◌, ◌<◌, ◌≤◌, map, length, ap, sym, ◌∙◌, subst, arith, rules}
use Rattle.std.specs.Prelude.{Some, FitsSigned}
use Rattle.std.specs.Int.{w64, cast_signed as to_z, cast_unsigned as of_z}
use Rattle.std.proofs.lemmas.Int.{to_z-of_z}
use Rattle.std.proofs.lemmas.List.{length-map}
use Rattle.awk_numbers.proofs.ExtremeLaws.{first_alone}
use Rattle.awk_cells.specs.Extremes.{packed, turned}
use Rattle.awk_cells.specs.declared.extremes.Best.{Best}
use Rattle.awk_cells.proofs.PackedLaws.{HasBest, best_more, best_place}
use Rattle.awk_cells.proofs.short_places.first_in.Goals as goal

pub loop-i-init : goal.loop-i-init
loop-i-init g c =
    let how = c.args.how in
    let gs = c.args.groups.now in
    let f = g.C.Cell.number in
    let zs = map f gs in
    let y = c.near_at.result in
    let made = c.packed-best.result in
    let fits : FitsSigned w64 y = search rules in
    let held : FitsSigned w64 made = search rules in
    let some : 0 < length zs = omega (arith, c.requires.some, length-map gs f) in
    let b : Best = record { place = 0; number = y } in (
      b,
      to_z-of_z w64 made held ∙ c.packed-best.ensures
          ∙ ap (λ z. packed how z 0) (to_z-of_z w64 y fits),
      omega arith,
      first_alone how zs y some c.near_at.ensures.number,
    )

pub loop-i-preserved : goal.loop-i-preserved
loop-i-preserved g c =
    let how = c.args.how in
    let gs = c.args.groups.now in
    let f = g.C.Cell.number in
    let i = c.loop-i.i in
    let y = c.near_at-in-loop-i.result in
    let p = c.packed.result in
    let new = c.lesser-best.result in
    let fits : FitsSigned w64 y = search rules in
    let whole : FitsSigned w64 p = search rules in
    let held : FitsSigned w64 new = search rules in
    let few : i ≤ 1073741824 = omega (arith, c.loop-i-test.true, c.requires.few) in
    let here = to_z-of_z w64 p whole ∙ c.packed.ensures
    ∙ ap (λ z. packed how z i) (to_z-of_z w64 y fits) in
    subst (HasBest how f gs (i + 1)) (sym (to_z-of_z w64 new held ∙ c.lesser-best.ensures))
    (best_more how f gs i (to_z w64 c.loop-i.best-bits) y (to_z w64 (of_z w64 p)) here few
    c.loop-i-test.true c.near_at-in-loop-i.ensures.number c.loop-i.invariant)

pub returns-clause-place : goal.returns-clause-place
returns-clause-place g c =
    let how = c.args.how in
    let gs = c.args.groups.now in
    let f = g.C.Cell.number in
    let zs = map f gs in
    let best = best_place how f gs c.loop-i.i (to_z w64 c.loop-i.best-bits) c.loop-i-test.false
    c.loop-i.invariant in
    let few : best.0.place ≤ 1073741824 = omega (arith, best.1.inside, c.requires.few) in
    ap Some (c.place_in.ensures (turned how best.0.number) best.0.place few best.2)
    ∙ sym best.1.first

pub returns-clause-inside : goal.returns-clause-inside
returns-clause-inside g c =
    let how = c.args.how in
    let gs = c.args.groups.now in
    let f = g.C.Cell.number in
    let best = best_place how f gs c.loop-i.i (to_z w64 c.loop-i.best-bits) c.loop-i-test.false
    c.loop-i.invariant in
    let few : best.0.place ≤ 1073741824 = omega (arith, best.1.inside, c.requires.few) in
    omega (
      arith,
      best.1.inside,
      c.place_in.ensures (turned how best.0.number) best.0.place few best.2,
    )
