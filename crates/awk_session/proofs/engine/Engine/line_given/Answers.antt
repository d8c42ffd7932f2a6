use Rattle.std.proofs.Common.{◌≡◌, ◌≢◌, Some, ap, sym, ◌∙◌, subst}
use Rattle.awk_eval.specs.Bindings.{look_up}
use Rattle.awk_eval.specs.Variables.{Variables}
use Rattle.awk_session.specs.Cost.{line_in}
use Rattle.awk_session.specs.Spending.{name_in}
use Rattle.awk_session.specs.State.{State}
use Rattle.awk_session.proofs.SizeLaws.{keeps}
use Rattle.awk_session.proofs.engine.Engine.line_given.Goals as goal

pub returns-clause-keeps : goal.returns-clause-keeps
returns-clause-keeps g c = λ n other.
    let here : c.self.inside.state.reading ≡ c.args.self.now.reading =
    ap (λ (s : State Variables). s.reading) c.self.view_is in
    let elsewhere = subst (λ r. name_in r c.args.line.memory.items ≢ Some n) (sym here) other in
    keeps n (line_in c.self.inside.state.reading c.args.line.memory.items) _ _ _
    c.answer_given-answered.result elsewhere c.answer_given-answered.ensures.binds
    (λ e. ap (λ (s : State Variables). s.variables) (c.answer_given-answered.ensures.same e))
    ∙ ap (λ (s : State Variables). look_up n s.variables) c.self.view_is
