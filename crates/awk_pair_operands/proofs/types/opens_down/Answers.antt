use Rattle.std.proofs.Common.{◌∙◌, sym, arith}
use Rattle.awk_pair_operands.specs.Types.{lists_down}
use Rattle.awk_pair_sides.proofs.TestLaws.{any_next, any_found, any_end}
use Rattle.awk_pair_operands.proofs.types.opens_down.Goals as goal

pub returns-then-lists_down : goal.returns-then-lists_down
returns-then-lists_down c =
    any_found (lists_down c.args.k) c.args.xs.now c.loop-i.i c.get.result.now _
    c.get.ensures.item (sym c.lists_down.ensures ∙ c.if-lists_down.true) c.loop-i.invariant

pub loop-i-preserved : goal.loop-i-preserved
loop-i-preserved c =
    any_next (lists_down c.args.k) c.args.xs.now c.loop-i.i c.get.result.now _
    c.get.ensures.item (sym c.lists_down.ensures ∙ c.if-lists_down.false) c.loop-i.invariant

pub returns : goal.returns
returns c =
    any_end (lists_down c.args.k) c.args.xs.now c.loop-i.i _
    (omega (arith, c.loop-i-test.false, c.len-i-end.ensures)) c.loop-i.invariant
