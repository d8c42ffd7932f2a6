use Rattle.std.proofs.Common.{ap, ◌∙◌, Some}
use Rattle.awk_made.specs.Session.{session_of}
use Rattle.awk_run.proofs.MadeLaws.{made_session, made_nothing, never_rose}
use Rattle.awk_run.proofs.MadeUnits.{made-within, made-ended}
use Rattle.awk_run.proofs.run.make.Goals as goal

pub returns-in_default-clause-made : goal.returns-in_default-clause-made
returns-in_default-clause-made g c = made_nothing (session_of c.args.seed c.args.events) _ _ _

pub returns-clause-made : goal.returns-clause-made
returns-clause-made g c =
    let told = ap Some (c.new-source.ensures ∙ c.deref.ensures.value ∙ c.in-Ok.ensures) in
    made_session (session_of c.args.seed c.args.events) c.run.result told
    (made-within c.args.events c.args.seed c.requires.events)
    (made-ended c.args.events c.args.seed c.requires.events)
    c.run.ensures.session (λ e. never_rose (c.run.ensures.read e))
    (c.run.ensures.cost (session_of c.args.seed c.args.events) told)
