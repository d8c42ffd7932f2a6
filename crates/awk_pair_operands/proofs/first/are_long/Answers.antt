use Rattle.std.proofs.Common.{◌∙◌, sym}
use Rattle.awk_pair_operands.proofs.FirstLaws.{long_not, long_next}
use Rattle.awk_pair_operands.proofs.first.are_long.Goals as goal

pub returns-then-not-is_long : goal.returns-then-not-is_long
returns-then-not-is_long c =
    long_not c.args.n c.args.xs.now c.loop-i.i c.get.result.now c.get.ensures.item
    (sym c.is_long.ensures ∙ c.if-not-is_long.true) c.loop-i.invariant

pub loop-i-preserved : goal.loop-i-preserved
loop-i-preserved c =
    long_next c.args.n c.args.xs.now c.loop-i.i c.get.result.now c.get.ensures.item
    (sym c.is_long.ensures ∙ c.if-not-is_long.false) c.loop-i.invariant
