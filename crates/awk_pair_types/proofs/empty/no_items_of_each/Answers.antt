use Rattle.std.proofs.Common.{arith}
use Rattle.awk_pair_types.proofs.EmptyLaws.{emptied_push, emptied_all, shallow_push, shallow_all}
use Rattle.awk_pair_types.proofs.empty.no_items_of_each.Goals as goal

pub loop-i-preserved : goal.loop-i-preserved
loop-i-preserved g c = (
  emptied_push c.args.xs.now c.loop-i.none c.push.new.self c.loop-i.i c.get.result.now
      c.in_ok-emptied.emptied c.get.ensures.item c.in_ok-push.ensures.ok
      c.in_ok-emptied.ensures.datum c.loop-i.invariant.0,
  shallow_push c.args.xs.now c.loop-i.i c.get.result.now c.get.ensures.item c.loop-i.invariant.1
      c.in_ok-emptied.ensures.shallow,
)

pub returns-clause-data : goal.returns-clause-data
returns-clause-data g c =
    emptied_all c.args.xs.now c.loop-i.none c.loop-i.i
    (omega (arith, c.loop-i-test.false, c.len-i-end.ensures)) c.loop-i.invariant.0

pub returns-clause-heights : goal.returns-clause-heights
returns-clause-heights g c =
    shallow_all c.args.xs.now c.loop-i.i
    (omega (arith, c.loop-i-test.false, c.len-i-end.ensures)) c.loop-i.invariant.1
