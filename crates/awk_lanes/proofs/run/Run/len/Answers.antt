use Rattle.std.proofs.Common.{subst, arith, ◌*◌, ◌<◌, ◌^◌}
use Rattle.awk_lanes.specs.Numbers.{width}
use Rattle.awk_lanes.proofs.RunLaws.{run_size, run_numbers_fit, run_kind}
use Rattle.awk_lanes.proofs.run.Run.len.Goals as goal

pub returns-clause-len : goal.returns-clause-len
returns-clause-len c = run_size _ _ _ c.args.self.now c.self.view_is

pub returns-clause-fits : goal.returns-clause-fits
returns-clause-fits c = run_numbers_fit _ _ _ c.args.self.now c.self.invariant.1 c.self.view_is

pub returns-clause-small : goal.returns-clause-small
returns-clause-small c =
    let few : c.self.inside.size * 8 < 2 ^ 64 = omega (arith, c.self.invariant.0) in
    subst (λ k. c.self.inside.size * width k < 2 ^ 64)
    (run_kind _ _ _ c.args.self.now c.self.view_is) few
