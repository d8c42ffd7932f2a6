use Rattle.std.proofs.Common.{arith}
use Rattle.awk_lanes.proofs.RunLaws.{run_size, run_part}
use Rattle.awk_lanes.proofs.run.Run.cut.Goals as goal

pub invariant_of-result : goal.invariant_of-result
invariant_of-result g c =
    let size = run_size _ _ _ c.args.self.now c.self.view_is in (
      omega (arith, c.self.invariant.0, c.requires.within, size),
      omega (arith, c.self.invariant.1, c.min-before.ensures),
    )

pub returns-clause-value : goal.returns-clause-value
returns-clause-value g c =
    run_part c.self.inside.size c.self.inside.first c.self.inside.count c.args.lo c.args.hi
    c.min-before.result c.args.self.now c.self.view_is c.requires.order c.requires.within
    c.min-before.ensures
