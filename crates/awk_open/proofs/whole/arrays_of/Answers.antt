use Rattle.awk_base.proofs.Lists.{take-get}
use Rattle.awk_open.proofs.whole.arrays_of.Goals as goal

pub loop-i-preserved : goal.loop-i-preserved
loop-i-preserved c =
    let more = take-get c.args.xs.now c.loop-i.i c.get.result.now c.get.ensures in
    cc (
      more,
      c.loop-i.invariant,
      c.in_ok-copy.ensures,
      c.in_ok-array.ensures,
      c.in_ok-push.ensures.ok,
    )
