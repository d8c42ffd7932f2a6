use Rattle.std.proofs.Common.{◌∙◌, ◌++◌, ◌∷◌, [], ap, append_assoc}
use Rattle.awk_unify.specs.Carry.{keep}
use Rattle.awk_unify.specs.Carries.{kept_each}
use Rattle.awk_unify.specs.View.{lifts_of}
use Rattle.awk_unify.proofs.Afters.{kept_each-push}
use Rattle.awk_unify.proofs.Views.{lift_of-Same}
use Rattle.awk_unify.proofs.placed.push_same.Goals as goal

pub loop-i-preserved : goal.loop-i-preserved
loop-i-preserved c =
    c.in_ok-push.ensures.ok ∙ ap (λ f. lifts_of c.loop-i.made ++ f ∷ []) lift_of-Same
    ∙ ap (λ fs. fs ++ keep ∷ []) c.loop-i.invariant
    ∙ append_assoc (lifts_of c.args.made.now) (kept_each c.loop-i.i) (keep ∷ [])
    ∙ ap (λ fs. lifts_of c.args.made.now ++ fs) (kept_each-push c.loop-i.i)
