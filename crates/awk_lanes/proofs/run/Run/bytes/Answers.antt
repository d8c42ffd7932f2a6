use Rattle.awk_lanes.proofs.RunLaws.{run_made}
use Rattle.awk_lanes.proofs.run.Run.bytes.Goals as goal

pub returns : goal.returns
returns c =
    let m = run_made c.self.inside.size c.self.inside.first c.self.inside.count c.args.self.now
    c.in_ok-groups.groups.now c.as_flattened.result.now c.self.invariant.1 c.self.view_is
    c.in_ok-groups.ensures c.as_flattened.ensures.value c.as_flattened.ensures.len in
    record { numbers = m.numbers; size = m.size; bytes = m.bytes }
