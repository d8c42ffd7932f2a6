use Rattle.std.proofs.Common.{◌≡◌, ◌+◌, ap, sym, ◌∙◌, subst, arith, rules, refl}
use Rattle.std.specs.Prelude.{FitsSigned}
use Rattle.std.specs.Int.{w64, cast_signed as to_z, cast_unsigned as of_z}
use Rattle.std.proofs.lemmas.Int.{to_z-of_z}
use Rattle.awk_nullable.specs.Extremes.{next_found, IsWorst, IsFound}
use Rattle.awk_nullable.specs.Numbers.{leaf_number, numbers_from}
use Rattle.awk_nullable.proofs.KeyedLaws.{found_more}
use Rattle.awk_nullable.proofs.keys.found_by.Goals as goal

pub loop-i-init : goal.loop-i-init
loop-i-init g c =
    let z = c.args.worst in
    let same = to_z-of_z w64 z c.ranges.worst in
    ((refl, refl), subst (FitsSigned w64) (sym same) c.ranges.worst)

pub key_by-requires-clause-ahead : goal.key_by-requires-clause-ahead
key_by-requires-clause-ahead g c =
    λ e. c.requires.ahead e c.loop-i.i c.loop-i-test.true

pub loop-i-preserved : goal.loop-i-preserved
loop-i-preserved g c =
    let how = g.S.Side.how in
    let f = g.P.Places.at c.args.x.now.places.now in
    let lane = g.C.Cells.lane c.args.x.now.cells.now in
    let s = g.C.Cells.shift c.args.x.now.cells.now in
    let first = c.args.first in
    let i = c.loop-i.i in
    let worst = to_z w64 (of_z w64 c.args.worst) in
    let old = c.loop-i.found in
    let new = c.after-found.result in
    let key = c.key_by.ensures in
    let beaten : IsWorst how worst =
    subst (IsWorst how) (sym (to_z-of_z w64 c.args.worst c.ranges.worst)) c.requires.worst in
    let fits : FitsSigned w64 new.key = search rules in (
      subst (IsFound how lane s worst (numbers_from (leaf_number f lane) first (i + 1)))
          (sym (c.after-found.ensures ∙ ap (next_found how worst old) key.key))
          (found_more how f lane s worst first i old beaten c.loop-i.invariant.1
          c.loop-i.invariant.0
          (λ k e. c.requires.items.leads (first + i) k
          (omega (
            arith,
            c.loop-i-test.true,
            c.requires.items.within (omega (arith, c.loop-i-test.true)),
          )) e)
          (λ z e. key.fits z (key.key ∙ e))),
      fits,
    )

pub returns : goal.returns
returns g c =
    let f = g.P.Places.at c.args.x.now.places.now in
    let lane = g.C.Cells.lane c.args.x.now.cells.now in
    let s = g.C.Cells.shift c.args.x.now.cells.now in
    let zs = numbers_from (leaf_number f lane) c.args.first in
    let all : c.loop-i.i ≡ c.args.count =
    omega (arith, c.loop-i-test.false, c.loop-i.auto.i-end) in
    subst (λ z. IsFound g.S.Side.how lane s z (zs c.args.count) c.loop-i.found)
    (to_z-of_z w64 c.args.worst c.ranges.worst)
    (subst (λ n. IsFound g.S.Side.how lane s (to_z w64 (of_z w64 c.args.worst)) (zs n)
    c.loop-i.found) all c.loop-i.invariant.0)
