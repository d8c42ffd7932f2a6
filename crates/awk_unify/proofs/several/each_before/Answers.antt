use Rattle.std.proofs.Common.{◌++◌, ◌∷◌, ◌∙◌, [], ap, map}
use Rattle.awk_base.proofs.Lists.{drop-get}
use Rattle.awk_unify.specs.After.{after}
use Rattle.awk_unify.specs.View.{lift_of, lifts_of}
use Rattle.awk_unify.proofs.Afters.{loop_step}
use Rattle.awk_unify.proofs.several.each_before.Goals as goal

pub loop-i-preserved : goal.loop-i-preserved
loop-i-preserved c =
    loop_step _ _ _ _ _ _ c.loop-i.invariant (ap (map (after (lift_of c.args.g.now)))
    (drop-get _ c.loop-i.i _ c.get.ensures.item))
    (c.in_ok-push.ensures.ok ∙ ap (λ x. lifts_of c.loop-i.made ++ x ∷ []) c.in_ok-after.ensures)
