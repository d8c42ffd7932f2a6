use Rattle.std.proofs.Common.{◌≡◌, ◌+◌, nat_lt, ap, sym, ◌∙◌, subst, arith}
use Rattle.std.specs.Prelude.{cond}
use Rattle.std.specs.Int.{w64, cast_signed as to_z, cast_unsigned as of_z}
use Rattle.std.proofs.lemmas.Int.{to_z-of_z}
use Rattle.awk_nullable.specs.Extremes.{is_some_number, leaf_key, number_place, IsItem}
use Rattle.awk_nullable.proofs.FindLaws.{item_more, place-more}
use Rattle.awk_nullable.proofs.extremes.place_by.Goals as goal

pub key_by-requires-clause-ahead : goal.key_by-requires-clause-ahead
key_by-requires-clause-ahead g c =
    λ e. c.requires.ahead e c.loop-i.i c.loop-i-test.true

pub loop-i-preserved : goal.loop-i-preserved
loop-i-preserved g c =
    let lane = g.C.Cells.lane c.args.x.now.cells.now in
    let s = g.C.Cells.shift c.args.x.now.cells.now in
    let f = leaf_key (g.P.Places.at c.args.x.now.places.now) lane s in
    let key = to_z w64 (of_z w64 c.args.key) in
    let first = c.args.first in
    let count = c.args.count in
    let i = c.loop-i.i in
    let place = c.loop-i.place in
    let there = f (first + i) in
    let is_it = c.is_key-is_it.ensures ∙ ap (is_some_number key) c.key_by.ensures.key in
    let made = c.earlier-place.ensures
    ∙ ap (λ n. cond (nat_lt n place) n place)
    (c.item_or_none.ensures ∙ ap (λ b. cond b i count) is_it) in
    subst (IsItem count (i + 1) (number_place f first (i + 1) key)) (sym made)
    (subst (λ o. IsItem count (i + 1) o
    (cond (nat_lt (cond (is_some_number key there) i count) place)
    (cond (is_some_number key there) i count) place))
    (sym (place-more f key first i))
    (item_more count i (number_place f first i key) place (is_some_number key there)
    c.loop-i-test.true c.loop-i.invariant))

pub returns : goal.returns
returns g c =
    let lane = g.C.Cells.lane c.args.x.now.cells.now in
    let s = g.C.Cells.shift c.args.x.now.cells.now in
    let f = leaf_key (g.P.Places.at c.args.x.now.places.now) lane s in
    let count = c.args.count in
    let all : c.loop-i.i ≡ count = omega (arith, c.loop-i-test.false, c.loop-i.auto.i-end) in
    subst (λ z. IsItem count count (number_place f c.args.first count z) c.loop-i.place)
    (to_z-of_z w64 c.args.key c.ranges.key)
    (subst (λ n. IsItem count n
    (number_place f c.args.first n (to_z w64 (of_z w64 c.args.key))) c.loop-i.place)
    all c.loop-i.invariant)
