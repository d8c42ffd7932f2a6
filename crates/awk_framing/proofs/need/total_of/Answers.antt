use Rattle.std.proofs.Common.{arith}
use Rattle.awk_edge.specs.Units.{raw_limit}
use Rattle.awk_framing.proofs.FramingLaws.{total-drop}
use Rattle.awk_framing.proofs.need.total_of.Goals as goal

pub returns-then-count-sum : goal.returns-then-count-sum
unfolding raw_limit
returns-then-count-sum c =
    let more = total-drop c.args.parts.now c.loop-i.i c.get.result.now c.get.ensures in
    omega (arith, more, c.loop-i.invariant.sum, c.loop-i.invariant.most, c.if-count-sum.true)

pub loop-i-preserved : goal.loop-i-preserved
unfolding raw_limit
loop-i-preserved c =
    let more = total-drop c.args.parts.now c.loop-i.i c.get.result.now c.get.ensures in
    record {
      sum = omega (arith, more, c.loop-i.invariant.sum);
      most = omega (arith, c.loop-i.invariant.most, c.if-count-sum.false);
      counted = c.loop-i.invariant.counted;
    }
