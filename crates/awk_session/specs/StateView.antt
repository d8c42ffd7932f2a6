-- Where the session of the engine stands.
use Rattle.awk_eval.specs.Variables.{Environment, Variables}
use Rattle.awk_session.specs.State.{State, denoted_state}
use Rattle.awk_session.specs.declared.state.SessionState.{SessionState}

abbrev pub shown : SessionState → State Variables
shown s = record { reading = s.reading; variables = s.env }

-- with what its variables stand for
abbrev pub stands : SessionState → State Environment
stands s = denoted_state (shown s)
