use Rattle.std.proofs.Common.{arith}
use Rattle.awk_unify.proofs.Afters.{loop_step, then_step, then_last}
use Rattle.awk_unify.proofs.after.each_then.Goals as goal

pub loop-i-preserved : goal.loop-i-preserved
loop-i-preserved c =
    loop_step _ _ _ _ _ _ c.loop-i.invariant (then_step _ _ c.loop-i.i _ _ _
    c.get-in-loop-i.ensures.item c.get.ensures.item c.in_ok-after.ensures)
    c.in_ok-push.ensures.ok

pub returns : goal.returns
returns c =
    then_last _ _ _ c.loop-i.i c.loop-i.invariant
    (omega (
      arith,
      c.loop-i-test.false,
      c.loop-i.auto.i-end,
      c.min-i-end.ensures,
      c.len.ensures,
      c.len-2.ensures,
    ))
