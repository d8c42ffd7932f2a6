-- How lines are read, unit by unit.
use Rattle.std.proofs.Common.{◌≡◌, ℕ, Bool, true, false, List, [], ◌∷◌, refl, ap, sym, ◌∙◌}
use Rattle.awk_edge.specs.Units.{Framed, read_after}
use Rattle.awk_eval.specs.Variables.{Environment}
use Rattle.awk_framing.specs.Framing.{is_blank, read_behind, session_framing}
use Rattle.awk_framing.proofs.FramingLaws.{read_behind-blank, read_behind-line}
use Rattle.awk_session.specs.Replies.{step, unit_step}
use Rattle.awk_units.specs.Runs.{state_after}
use Rattle.awk_session.specs.State.{State}
use Rattle.awk_session.proofs.StepLaws.{step-blank, step-line}

by_blank : (s : State Environment) (line raw : List ℕ) (b : Bool) → is_blank line ≡ b
    → (step s line raw).after.reading ≡ read_behind s.reading line
by_blank s line raw true e =
    rw (step-blank s line raw e) (sym (read_behind-blank s.reading line e))
by_blank s line raw false e =
    rw (step-line s line raw e) (sym (read_behind-line s.reading line e))

pub reading-step : (s : State Environment) (u : Framed)
    → (unit_step s u).after.reading ≡ read_behind s.reading u.line
reading-step s u = by_blank s u.line u.raw (is_blank u.line) refl

-- the reading of a state is that of the units before it
pub reading-after : (s : State Environment) (us : List Framed)
    → (state_after unit_step s us).reading ≡ read_after session_framing s.reading us
reading-after s [] = refl
reading-after s (u ∷ us) =
    reading-after (unit_step s u).after us
    ∙ ap (λ r. read_after session_framing r us) (reading-step s u)
