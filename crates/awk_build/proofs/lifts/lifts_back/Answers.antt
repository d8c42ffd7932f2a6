use Rattle.std.proofs.Common.{◌∙◌, ◌++◌, ◌∷◌, [], ap, arith, length, refl}
use Rattle.awk_unify.specs.View.{lift_of, lifts_of, unified_of}
use Rattle.awk_build.proofs.LiftSteps.{back_next}
use Rattle.awk_build.proofs.lifts.lifts_back.Goals as goal

pub loop-k-preserved : goal.loop-k-preserved
loop-k-preserved c =
    back_next unified_of c.args.steps.now (length c.args.steps.now) c.loop-k.k
    c.index-steps-n.result (lift_of c.loop-k.so_far) (lift_of c.in_ok-so_far.so_far)
    (lifts_of c.loop-k.lifts) (lifts_of c.push.new.self) refl
    (omega (arith, c.loop-k-test.true)) c.index-steps-n.is c.loop-k.invariant
    c.in_ok-so_far.ensures
    (c.in_ok-push.ensures.ok
    ∙ ap (λ f. lifts_of c.loop-k.lifts ++ f ∷ []) c.in_ok-after.ensures)
