use Rattle.std.proofs.Common.{sym}
use Rattle.awk_lanes.proofs.RunLaws.{run_kind}
use Rattle.awk_lanes.proofs.run.Run.kind.Goals as goal

pub returns : goal.returns
returns c =
    let wide = run_kind _ _ _ c.args.self.now c.self.view_is in
    record { value = wide; wide = sym wide }
