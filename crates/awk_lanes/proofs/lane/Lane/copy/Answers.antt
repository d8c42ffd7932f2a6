use Rattle.std.proofs.Common.{◌∙◌}
use Rattle.awk_lanes.proofs.RunLaws.{seen_bytes, seen_run}
use Rattle.awk_lanes.proofs.lane.Lane.copy.Goals as goal

pub returns-in-Bytes : goal.returns-in-Bytes
returns-in-Bytes c =
    c.copy.ensures ∙ seen_bytes _ c.in-Bytes.lane c.args.self.now c.in-Bytes.is c.self.view_is

pub returns-in-Run : goal.returns-in-Run
returns-in-Run c =
    c.copy-in-Run.ensures ∙ seen_run _ c.in-Run.places c.args.self.now c.in-Run.is c.self.view_is
