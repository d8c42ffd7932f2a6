use Rattle.std.proofs.Common.{◌≡◌, ◌∙◌, arith, subst, sym}
use Rattle.std.specs.Prelude.{Err}
use Rattle.awk_layout.specs.Frames.{IsOnly}
use Rattle.awk_cast.specs.Casting.{AreAnswer, IsAnswer, IsTold}
use Rattle.awk_cast.specs.Levels.{AreBeside, IsOver}
use Rattle.awk_cast.proofs.CoverLaws.{only_is, over_cast, over_told}
use Rattle.awk_cast.proofs.EachLaws.{so_far_failed, so_far_taken}
use Rattle.awk_cast.proofs.Falls.{each_falls}
use Rattle.awk_cast.proofs.FrameLaws.{beside_cast, beside_fits, beside_told}
use Rattle.awk_cast.proofs.casting.+cast.Goals as goal

-- ---- one content

pub cast_column-returns-in_err-node-in-Over : goal.cast_column-returns-in_err-node-in-Over
cast_column-returns-in_err-node-in-Over g t c =
    let p = c.args.to in
    let x = c.args.x.now in
    let only : IsOnly (IsOver x c.in-Over.cover) c.in-Over.contents =
    rw c.in-Over.is at c.in_ok-node.ensures in
    let over : IsOver x c.in-Over.cover c.get.result.now =
    only_is (IsOver x c.in-Over.cover) c.in-Over.contents c.get.result.now only c.get.ensures in
    let e = c.in_err-node-in-Over.field-0.0 in
    let failed : c.from_residual-in_err-node-in-Over.result ≡ Err e = grind arith in
    subst (IsAnswer p x) (sym failed)
    (subst (λ s. IsTold s e) (sym (over_told p c.in-Over.cover c.get.result.now x over))
    c.in_err-node-in-Over.ensures)

pub cast_column-returns-in_ok-covered-in-Over : goal.cast_column-returns-in_ok-covered-in-Over
cast_column-returns-in_ok-covered-in-Over g t c =
    let p = c.args.to in
    let x = c.args.x.now in
    let z = c.get.result.now in
    let only : IsOnly (IsOver x c.in-Over.cover) c.in-Over.contents =
    rw c.in-Over.is at c.in_ok-node.ensures in
    let over : IsOver x c.in-Over.cover z =
    only_is (IsOver x c.in-Over.cover) c.in-Over.contents z only c.get.ensures in
    let node = c.in_ok-node-in-Over.ensures in (
      over_told p c.in-Over.cover z x over ∙ node.0,
      rw (c.in_ok-covered-in-Over.ensures, c.len.ensures.len)
          (over_cast p c.in-Over.cover z x c.in_ok-node-in-Over.node over node.1),
    )

-- ---- several contents

pub cast_column-returns-in_err-nodes-in-Beside : goal.cast_column-returns-in_err-nodes-in-Beside
cast_column-returns-in_err-nodes-in-Beside g t c =
    let p = c.args.to in
    let x = c.args.x.now in
    let beside : AreBeside x c.in-Beside.frame c.in-Beside.contents =
    rw c.in-Beside.is at c.in_ok-node.ensures in
    let e = c.in_err-nodes-in-Beside.field-0.0 in
    let failed : c.from_residual-in_err-nodes-in-Beside.result ≡ Err e = grind arith in
    subst (IsAnswer p x) (sym failed)
    (subst (λ s. IsTold s e)
    (sym (beside_told p c.in-Beside.frame c.in-Beside.contents x beside))
    c.in_err-nodes-in-Beside.ensures)

pub cast_column-framed-requires : goal.cast_column-framed-requires
cast_column-framed-requires g t c =
    let x = c.args.x.now in
    let beside : AreBeside x c.in-Beside.frame c.in-Beside.contents =
    rw c.in-Beside.is at c.in_ok-node.ensures in
    rw c.len-in-Beside.ensures.len
    (beside_fits c.args.to c.in-Beside.frame c.in-Beside.contents c.in_ok-nodes-in-Beside.nodes x
    beside c.in_ok-nodes-in-Beside.ensures.1)

pub cast_column-returns-in_ok-nodes-in-Beside : goal.cast_column-returns-in_ok-nodes-in-Beside
cast_column-returns-in_ok-nodes-in-Beside g t c =
    let p = c.args.to in
    let x = c.args.x.now in
    let ys = c.in-Beside.contents in
    let beside : AreBeside x c.in-Beside.frame ys = rw c.in-Beside.is at c.in_ok-node.ensures in
    let nodes = c.in_ok-nodes-in-Beside.ensures in (
      beside_told p c.in-Beside.frame ys x beside ∙ nodes.0,
      rw (c.framed.ensures, c.len-in-Beside.ensures.len)
          (beside_cast p c.in-Beside.frame ys c.in_ok-nodes-in-Beside.nodes x beside nodes.1),
    )

-- ---- arrays one after another

pub cast_each-cast_column-made-requires : goal.cast_each-cast_column-made-requires
cast_each-cast_column-made-requires g t c κs within = (
  omega (
    arith,
    each_falls c.args.xs.now c.loop-i.i c.get.result.now c.get.ensures,
    c.decreases,
  ),
  within,
)

pub cast_each-returns-in_err-overflows : goal.cast_each-returns-in_err-overflows
cast_each-returns-in_err-overflows g t c =
    let e = c.in_err-overflows.field-0.0 in
    let failed : c.from_residual.result ≡ Err e = grind arith in
    subst (AreAnswer c.args.to c.args.xs.now) (sym failed)
    (so_far_failed c.args.to c.args.xs.now c.loop-i.i c.get.result.now c.loop-i.overflows
    c.loop-i.nodes c.get.ensures c.loop-i.invariant c.cast_column-made.result e
    c.taken.new.nodes c.cast_column-made.ensures c.in_err-overflows.ensures)

pub cast_each-loop-i-preserved : goal.cast_each-loop-i-preserved
cast_each-loop-i-preserved g t c =
    so_far_taken c.args.to c.args.xs.now c.loop-i.i c.get.result.now c.loop-i.overflows
    c.loop-i.nodes c.get.ensures c.loop-i.invariant c.cast_column-made.result
    c.in_ok-overflows.overflows c.taken.new.nodes c.cast_column-made.ensures
    c.in_ok-overflows.ensures
