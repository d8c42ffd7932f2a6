use Rattle.std.proofs.Common.{ap, sym}
use Rattle.awk_eval.specs.Variables.{Variables}
use Rattle.awk_session.specs.State.{State}
use Rattle.awk_session.proofs.engine.Engine.raw_need.Goals as goal

pub returns : goal.returns
returns c = rw (ap (λ (s : State Variables). s.reading) (sym c.self.view_is)) c.raw_need.ensures
