use Rattle.std.proofs.Common.{◌≡◌, ◌+◌, ap, sym, ◌∙◌, subst, arith, rules, refl, inl}
use Rattle.std.specs.Prelude.{FitsSigned}
use Rattle.std.specs.Int.{w64, cast_signed as to_z, cast_unsigned as of_z}
use Rattle.std.proofs.lemmas.Int.{to_z-of_z}
use Rattle.awk_nullable.specs.Extremes.{leaf_key, next_placed, IsFound, IsPlaced, IsWorst}
use Rattle.awk_nullable.specs.Numbers.{leaf_number, numbers_from}
use Rattle.awk_nullable.specs.declared.extremes.Placed.{Placed}
use Rattle.awk_nullable.proofs.KeyedLaws.{found_more}
use Rattle.awk_nullable.proofs.PlacedLaws.{placed_more}
use Rattle.awk_nullable.proofs.extremes.placed_by.Goals as goal

pub loop-i-init : goal.loop-i-init
loop-i-init g c =
    let z = c.args.worst in
    let same = to_z-of_z w64 z c.ranges.worst in (
      (refl, refl),
      subst (FitsSigned w64) (sym same) c.ranges.worst,
      record { before = λ y t. refl; here = inl (refl, refl) },
    )

pub key_by-requires-clause-ahead : goal.key_by-requires-clause-ahead
key_by-requires-clause-ahead g c =
    λ e. c.requires.ahead e c.loop-i.i c.loop-i-test.true

pub loop-i-preserved : goal.loop-i-preserved
loop-i-preserved g c =
    let how = g.S.Side.how in
    let f = g.P.Places.at c.args.x.now.places.now in
    let lane = g.C.Cells.lane c.args.x.now.cells.now in
    let s = g.C.Cells.shift c.args.x.now.cells.now in
    let first = c.args.first in
    let count = c.args.count in
    let i = c.loop-i.i in
    let worst = to_z w64 (of_z w64 c.args.worst) in
    let old = c.loop-i.placed in
    let new = c.placed_after-placed.result in
    let key = c.key_by.ensures in
    let beaten : IsWorst how worst =
    subst (IsWorst how) (sym (to_z-of_z w64 c.args.worst c.ranges.worst)) c.requires.worst in
    let same = sym (c.placed_after-placed.ensures ∙ ap (next_placed how worst i old) key.key) in
    let fits : FitsSigned w64 new.found.key = search rules in (
      subst (λ (b : Placed). IsFound how lane s worst
          (numbers_from (leaf_number f lane) first (i + 1)) b.found) same
          (found_more how f lane s worst first i old.found beaten c.loop-i.invariant.1
          c.loop-i.invariant.0
          (λ k e. c.requires.items.leads (first + i) k
          (omega (
            arith,
            c.loop-i-test.true,
            c.requires.items.within (omega (arith, c.loop-i-test.true)),
          )) e)
          (λ z e. key.fits z (key.key ∙ e))),
      fits,
      subst (IsPlaced how worst count (leaf_key f lane s) first (i + 1)) same
          (placed_more how worst count (leaf_key f lane s) first i old.found.key old.place beaten
          c.loop-i.invariant.1 c.loop-i.invariant.2),
    )

pub returns-clause-found : goal.returns-clause-found
returns-clause-found g c =
    let f = g.P.Places.at c.args.x.now.places.now in
    let lane = g.C.Cells.lane c.args.x.now.cells.now in
    let s = g.C.Cells.shift c.args.x.now.cells.now in
    let zs = numbers_from (leaf_number f lane) c.args.first in
    let all : c.loop-i.i ≡ c.args.count =
    omega (arith, c.loop-i-test.false, c.loop-i.auto.i-end) in
    subst (λ z. IsFound g.S.Side.how lane s z (zs c.args.count) c.loop-i.placed.found)
    (to_z-of_z w64 c.args.worst c.ranges.worst)
    (subst (λ n. IsFound g.S.Side.how lane s (to_z w64 (of_z w64 c.args.worst)) (zs n)
    c.loop-i.placed.found) all c.loop-i.invariant.0)

pub returns-clause-place : goal.returns-clause-place
returns-clause-place g c =
    let f = g.P.Places.at c.args.x.now.places.now in
    let lane = g.C.Cells.lane c.args.x.now.cells.now in
    let s = g.C.Cells.shift c.args.x.now.cells.now in
    let key = leaf_key f lane s in
    let all : c.loop-i.i ≡ c.args.count =
    omega (arith, c.loop-i-test.false, c.loop-i.auto.i-end) in
    subst (λ z. IsPlaced g.S.Side.how z c.args.count key c.args.first c.args.count
    c.loop-i.placed)
    (to_z-of_z w64 c.args.worst c.ranges.worst)
    (subst (λ n. IsPlaced g.S.Side.how (to_z w64 (of_z w64 c.args.worst)) c.args.count key
    c.args.first n c.loop-i.placed) all c.loop-i.invariant.2)
