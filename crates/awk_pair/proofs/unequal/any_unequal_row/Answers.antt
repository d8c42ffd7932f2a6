use Rattle.std.proofs.Common.{sym, refl, map, arith, ◌∙◌}
use Rattle.awk_layout.specs.Typing.{array_type}
use Rattle.awk_pair_sides.specs.Rows.{rows_at}
use Rattle.awk_pair.proofs.UnequalLaws.{no_level, alone_long, alone_uneven, place_uneven}
use Rattle.awk_pair.proofs.UnequalLaws.{places-of-all, some_place, none_next, none_all}
use Rattle.awk_pair.proofs.unequal.any_unequal_row.Goals as goal

pub returns-then-not-goes_on : goal.returns-then-not-goes_on
returns-then-not-goes_on g c =
    no_level c.args.keep c.args.d (map array_type c.args.xs.now) (rows_at c.args.xs.now c.args.n)
    (sym c.goes_on.ensures ∙ c.if-not-goes_on.true)

pub any_unequal-requires-clause-long : goal.any_unequal-requires-clause-long
any_unequal-requires-clause-long g c =
    alone_long c.loop-i.i c.args.xs.now c.in_ok-row.row c.in_ok-row.ensures

pub returns-then-unequal : goal.returns-then-unequal
returns-then-unequal g c =
    some_place (place_uneven c.args.keep c.args.d c.args.xs.now) c.args.n c.loop-i.i _ refl
    (omega (arith, c.loop-i-test.true))
    (alone_uneven c.args.keep c.args.d c.loop-i.i c.args.xs.now c.in_ok-row.row
    c.in_ok-unequal.unequal c.in_ok-row.ensures c.in_ok-unequal.ensures ∙ c.if-unequal.true)
    ∙ sym (places-of-all c.args.keep c.args.d c.args.n c.args.xs.now)

pub loop-i-preserved : goal.loop-i-preserved
loop-i-preserved g c =
    none_next (place_uneven c.args.keep c.args.d c.args.xs.now) c.loop-i.i
    (alone_uneven c.args.keep c.args.d c.loop-i.i c.args.xs.now c.in_ok-row.row
    c.in_ok-unequal.unequal c.in_ok-row.ensures c.in_ok-unequal.ensures ∙ c.if-unequal.false)
    c.loop-i.invariant

pub returns : goal.returns
returns g c =
    none_all (place_uneven c.args.keep c.args.d c.args.xs.now) c.args.n
    (λ k l. c.loop-i.invariant k (omega (arith, l, c.loop-i-test.false)))
    ∙ sym (places-of-all c.args.keep c.args.d c.args.n c.args.xs.now)
