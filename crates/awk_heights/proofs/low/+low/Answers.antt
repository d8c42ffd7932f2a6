use Rattle.std.proofs.Common.{◌≡◌, add-one, arith, sym, subst, take}
use Rattle.std.proofs.lemmas.Result.{IfOk-weaker}
use Rattle.awk_base.proofs.Lists.{take_suc-get}
use Rattle.awk_open.specs.Opened.{IsOpened}
use Rattle.awk_layout.specs.Frames.{IsOnly}
use Rattle.awk_heights.specs.Levels.{covered, kind_of, IsOver}
use Rattle.awk_heights.specs.Low.{IsLowNode}
use Rattle.awk_heights.proofs.CoverLaws.{only_is, over_low}
use Rattle.awk_heights.proofs.Falls.{each_falls}
use Rattle.awk_heights.proofs.FrameLaws.{beside_fits, beside_low, low_behind}
use Rattle.awk_heights.proofs.low.+low.Goals as goal

-- ---- one content

pub low_node-returns-in_ok-node-in-Over : goal.low_node-returns-in_ok-node-in-Over
low_node-returns-in_ok-node-in-Over g t c =
    let x = c.args.x.now in
    let z = c.get.result.now in
    let node = c.in_ok-node-in-Over.node in
    let only : IsOnly (IsOver x c.in-Over.cover) c.in-Over.contents =
    rw c.in-Over.is at c.in_ok-node.ensures in
    let over : IsOver x c.in-Over.cover z =
    only_is (IsOver x c.in-Over.cover) c.in-Over.contents z only c.get.ensures in
    IfOk-weaker c.covered.result (λ y. y ≡ covered c.in-Over.cover node) (IsLowNode x)
    (λ y e. subst (IsLowNode x) (sym e)
    (over_low c.in-Over.cover x node z over c.in_ok-node-in-Over.ensures)) c.covered.ensures

-- ---- several contents

pub low_node-framed-requires : goal.low_node-framed-requires
low_node-framed-requires g t c =
    let x = c.args.x.now in
    let beside : IsOpened x (kind_of c.in-Beside.frame c.in-Beside.contents) =
    rw c.in-Beside.is at c.in_ok-node.ensures in
    rw c.len.ensures.len
    (beside_fits c.in-Beside.frame c.in-Beside.contents c.in_ok-nodes-in-Beside.nodes x beside
    c.in_ok-nodes-in-Beside.ensures)

pub low_node-returns-in_ok-nodes-in-Beside : goal.low_node-returns-in_ok-nodes-in-Beside
low_node-returns-in_ok-nodes-in-Beside g t c =
    let x = c.args.x.now in
    let beside : IsOpened x (kind_of c.in-Beside.frame c.in-Beside.contents) =
    rw c.in-Beside.is at c.in_ok-node.ensures in
    rw (c.framed.ensures, c.len.ensures.len)
    (beside_low c.in-Beside.frame c.in-Beside.contents c.in_ok-nodes-in-Beside.nodes x beside
    c.in_ok-nodes-in-Beside.ensures)

-- ---- arrays one after another

pub low_nodes-low_node-requires : goal.low_nodes-low_node-requires
low_nodes-low_node-requires g t c κs within = (
  omega (
    arith,
    each_falls c.args.xs.now c.loop-i.i c.get.result.now c.get.ensures,
    c.decreases,
  ),
  within,
)

pub low_nodes-loop-i-preserved : goal.low_nodes-loop-i-preserved
low_nodes-loop-i-preserved g t c =
    rw (
      add-one,
      take_suc-get c.args.xs.now c.loop-i.i c.get.result.now c.get.ensures,
      c.in_ok-push.ensures.ok,
    )
    (low_behind (take c.loop-i.i c.args.xs.now) c.loop-i.nodes c.get.result.now c.in_ok-node.node
    c.loop-i.invariant c.in_ok-node.ensures)
