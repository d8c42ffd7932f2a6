use Rattle.awk_unify.proofs.Afters.{loop_step, tag_step}
use Rattle.awk_unify.proofs.places.Places.at_each.Goals as goal

pub loop-i-preserved : goal.loop-i-preserved
loop-i-preserved c =
    loop_step _ _ _ _ _ _ c.loop-i.invariant (tag_step _ _ c.loop-i.i _ _ c.get.ensures
    c.at.ensures) c.in_ok-push.ensures.ok
