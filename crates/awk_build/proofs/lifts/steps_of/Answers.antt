use Rattle.std.proofs.Common.{◌≡◌, ◌∙◌, ◌++◌, ◌∷◌, [], ap, map}
use Rattle.std.proofs.lemmas.List.{map-append}
use Rattle.awk_types.specs.View.{typ_of}
use Rattle.awk_layout.specs.Typing.{array_type}
use Rattle.awk_unify.specs.Unify.{unification}
use Rattle.awk_unify.specs.View.{unified_of}
use Rattle.awk_build.proofs.LiftSteps.{step_more}
use Rattle.awk_build.proofs.lifts.steps_of.Goals as goal

pub loop-i-preserved : goal.loop-i-preserved
loop-i-preserved c =
    let t = typ_of c.loop-i.typ in
    let x = c.get.result.now in
    let b = array_type x in
    let rs = map unified_of c.loop-i.steps.items in
    let made : unified_of c.in_ok-step.step ≡ unification t b =
    c.in_ok-step.ensures ∙ ap (unification t) c.typ.ensures.typ in
    let put : map unified_of c.push.new.self.items ≡ rs ++ unification t b ∷ [] =
    ap (map unified_of) c.in_ok-push.ensures.items
    ∙ map-append unified_of c.loop-i.steps.items (c.in_ok-step.step ∷ [])
    ∙ ap (λ r. rs ++ r ∷ []) made in
    step_more c.args.xs.now rs (map unified_of c.push.new.self.items) t
    (typ_of c.in_ok-typ.typ) x c.loop-i.i c.loop-i.invariant c.get.ensures c.typ.ensures.lawful
    (c.in_ok-typ.ensures ∙ ap (λ r. r.typ) made) put
