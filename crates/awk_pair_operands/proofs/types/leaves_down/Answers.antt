use Rattle.std.proofs.Common.{◌∙◌, sym, arith}
use Rattle.awk_pair_operands.specs.Types.{leaf_down}
use Rattle.awk_pair_sides.proofs.TestLaws.{all_next, all_not, all_end}
use Rattle.awk_pair_operands.proofs.types.leaves_down.Goals as goal

pub returns-then-not-leaf_down : goal.returns-then-not-leaf_down
returns-then-not-leaf_down c =
    all_not (leaf_down c.args.k) c.args.xs.now c.loop-i.i c.get.result.now _
    c.get.ensures.item (sym c.leaf_down.ensures ∙ c.if-not-leaf_down.true) c.loop-i.invariant

pub loop-i-preserved : goal.loop-i-preserved
loop-i-preserved c =
    all_next (leaf_down c.args.k) c.args.xs.now c.loop-i.i c.get.result.now _
    c.get.ensures.item (sym c.leaf_down.ensures ∙ c.if-not-leaf_down.false) c.loop-i.invariant

pub returns : goal.returns
returns c =
    all_end (leaf_down c.args.k) c.args.xs.now c.loop-i.i _
    (omega (arith, c.loop-i-test.false, c.len-i-end.ensures)) c.loop-i.invariant
