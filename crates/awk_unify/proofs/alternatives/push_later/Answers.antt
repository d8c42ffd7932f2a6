use Rattle.std.proofs.Common.{◌∷◌, ◌++◌, ◌∙◌, [], ap}
use Rattle.awk_base.proofs.Lists.{drop-get}
use Rattle.awk_types.specs.View.{typs_of}
use Rattle.awk_unify.proofs.Afters.{loop_step}
use Rattle.awk_unify.proofs.alternatives.push_later.Goals as goal

pub loop-i-preserved : goal.loop-i-preserved
loop-i-preserved c =
    loop_step _ _ _ _ _ _ c.loop-i.invariant (drop-get _ c.loop-i.i _ c.get.ensures.item)
    (c.in_ok-push.ensures.ok ∙ ap (λ x. typs_of c.loop-i.made ++ x ∷ []) c.in_ok-copy_type.ensures)
