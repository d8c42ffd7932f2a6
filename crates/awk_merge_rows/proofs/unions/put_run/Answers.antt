use Rattle.std.proofs.Common.{refl, arith}
use Rattle.awk_merge_rows.proofs.TaggedLaws.{numbers-next, ready-next}
use Rattle.awk_merge_rows.proofs.unions.put_run.Goals as goal

pub push-requires-clause-ready : goal.push-requires-clause-ready
push-requires-clause-ready c =
    ready-next c.args.n c.loop-i.i c.args.made.now c.loop-i.made _ _ c.requires.ready
    (omega arith) c.loop-i.invariant.0 c.loop-i.invariant.1

pub loop-i-preserved : goal.loop-i-preserved
loop-i-preserved c = (
  numbers-next c.args.made.now.tags c.loop-i.made.tags c.push.new.self.tags c.loop-i.i _ _
      c.loop-i.invariant.0 refl c.push.ensures.tags,
  numbers-next c.args.made.now.index c.loop-i.made.index c.push.new.self.index c.loop-i.i _ _
      c.loop-i.invariant.1 refl c.push.ensures.index,
)
