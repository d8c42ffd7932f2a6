use Rattle.std.proofs.Common.{◌∙◌, sym, arith}
use Rattle.awk_cartesian.proofs.TypeLaws.{nulls_next, nulls_found, nulls_last}
use Rattle.awk_cartesian.proofs.typing.some_may_be_null.Goals as goal

pub loop-j-preserved : goal.loop-j-preserved
loop-j-preserved c =
    nulls_next c.args.xs.now c.loop-j.j c.get.result.now _ c.get.ensures.item
    (sym c.may_be_null.ensures ∙ c.if-may_be_null.false) c.loop-j.invariant

pub returns-then-may_be_null : goal.returns-then-may_be_null
returns-then-may_be_null c =
    nulls_found c.args.xs.now c.loop-j.j c.get.result.now _ c.get.ensures.item
    (sym c.may_be_null.ensures ∙ c.if-may_be_null.true) c.loop-j.invariant

pub returns : goal.returns
returns c =
    nulls_last c.args.xs.now c.loop-j.j _
    (omega (arith, c.loop-j-test.false, c.len-j-end.ensures)) c.loop-j.invariant
