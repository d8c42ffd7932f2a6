-- The loop over contents.
use Rattle.std.proofs.Common.{◌+◌, ◌++◌, ◌∷◌, [], ap₂, sym, ◌∙◌, arith, rules}
use Rattle.awk_base.proofs.Lists.{take-get}
use Rattle.awk_layout.specs.Contents.{weight-get}
use Rattle.awk_range.proofs.Weights.{weights-take_more, weights-take-le}
use Rattle.awk_copies.proofs.shared.+shared.Goals as goal

pub shared_all-shared-requires : goal.shared_all-shared-requires
shared_all-shared-requires g t c κs within =
    let w = weight-get c.args.xs.now c.loop-i.i c.get.result.now c.get.ensures in
    search rules

pub shared_all-returns-in_err-shared-clause-cost :
    goal.shared_all-returns-in_err-shared-clause-cost
shared_all-returns-in_err-shared-clause-cost g t c =
    let more = weights-take_more c.args.xs.now c.loop-i.i c.get.result.now c.get.ensures in
    let within = weights-take-le c.args.xs.now (c.loop-i.i + 1) in
    omega (arith, c.loop-i.invariant.cost, c.in_err-shared.ensures.cost)

pub shared_all-returns-in_err-push-clause-cost : goal.shared_all-returns-in_err-push-clause-cost
shared_all-returns-in_err-push-clause-cost g t c =
    let more = weights-take_more c.args.xs.now c.loop-i.i c.get.result.now c.get.ensures in
    let within = weights-take-le c.args.xs.now (c.loop-i.i + 1) in
    omega (arith, c.loop-i.invariant.cost, c.in_ok-shared.ensures.cost)

pub shared_all-loop-i-preserved : goal.shared_all-loop-i-preserved
shared_all-loop-i-preserved g t c =
    let more = weights-take_more c.args.xs.now c.loop-i.i c.get.result.now c.get.ensures in
    record {
      made = c.in_ok-push.ensures.ok
          ∙ ap₂ (λ made x. made ++ x ∷ []) c.loop-i.invariant.made c.in_ok-shared.ensures.same
          ∙ sym (take-get c.args.xs.now c.loop-i.i c.get.result.now c.get.ensures);
      cost = omega (arith, c.loop-i.invariant.cost, c.in_ok-shared.ensures.cost);
    }
