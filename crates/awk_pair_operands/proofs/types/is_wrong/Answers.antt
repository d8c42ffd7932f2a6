use Rattle.std.proofs.Common.{◌∙◌, ap, not, sym, arith}
use Rattle.awk_pair_operands.proofs.TypeLaws.{wrong-first, wrong_next, wrong_end, wrong_last}
use Rattle.awk_pair_operands.proofs.types.is_wrong.Goals as goal

pub loop-k-init : goal.loop-k-init
loop-k-init c = wrong-first c.args.xs.now c.args.d

pub returns-then-not-opens_down : goal.returns-then-not-opens_down
returns-then-not-opens_down c =
    ap not c.leaves_down.ensures
    ∙ wrong_end c.args.xs.now c.args.d c.loop-k.k _ (omega (arith, c.loop-k-test.true))
    (sym c.opens_down.ensures ∙ c.if-not-opens_down.true) c.loop-k.invariant

pub loop-k-preserved : goal.loop-k-preserved
loop-k-preserved c =
    wrong_next c.args.xs.now c.args.d c.loop-k.k _ (omega (arith, c.loop-k-test.true))
    (sym c.opens_down.ensures ∙ c.if-not-opens_down.false) c.loop-k.invariant

pub returns : goal.returns
returns c =
    ap not c.leaves_down-2.ensures
    ∙ wrong_last c.args.xs.now c.args.d c.loop-k.k _
    (omega (arith, c.loop-k-test.false, c.loop-k.auto)) c.loop-k.invariant
