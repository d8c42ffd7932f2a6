-- One number more.
use Rattle.std.proofs.Common.{◌∙◌, arith}
use Rattle.awk_lanes.specs.Numbers.{nat_of}
use Rattle.awk_lanes.specs.Runs.{run_at}
use Rattle.awk_lanes.proofs.RunLaws.{one_more}
use Rattle.awk_lanes.proofs.run.run_nats.Goals as goal

pub loop-i-preserved : goal.loop-i-preserved
loop-i-preserved c = record {
  count = omega (arith, c.push_reserved.ensures.len, c.loop-i.invariant.count);
  room = c.push_reserved.ensures.capacity ∙ c.loop-i.invariant.room;
  items = one_more (λ i. nat_of (run_at c.args.first c.args.count i)) c.loop-i.i c.nat_at.result
      c.loop-i.nats.items _ c.push_reserved.ensures.items c.nat_at.ensures
      c.loop-i.invariant.items;
}
