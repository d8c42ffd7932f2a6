use Rattle.awk_base.proofs.Lists.{take-get}
use Rattle.awk_copies.proofs.moving.+moving.Goals as goal

pub nodes_in-loop-i-preserved : goal.nodes_in-loop-i-preserved
nodes_in-loop-i-preserved g t c =
    let more = take-get c.args.xs.now c.loop-i.i c.get.result.now c.get.ensures in
    cc (more, c.loop-i.invariant, c.in_ok-node_in.ensures, c.in_ok-push.ensures.ok)
