use Rattle.awk_eval.proofs.ViewSteps.{Takes-kept}
use Rattle.awk_eval.proofs.views.without_of.Goals as goal

pub returns-clause-cost : goal.returns-clause-cost
returns-clause-cost g c s within =
    Takes-kept s c.args.name.now c.args.x.now c.args.steps.now c.without_field.new.steps
    c.without_field.result within c.without_field.ensures.answer c.without_field.ensures.cost
    c.without_field.ensures.nodes c.without_field.ensures.height
