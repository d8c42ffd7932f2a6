-- What the layer above uses of a step.
use Rattle.std.proofs.Common.{◌≡◌, ◌≢◌, ℕ, ◌+◌, ◌==◌, Bool, true, false, not, cond, List, [], ◌∷◌}
use Rattle.std.proofs.Common.{◌++◌, None, refl, sym, ap, ◌∙◌, arith}
use Rattle.std.proofs.lemmas.List.Sums.{sum_by-append, sum_by-cons}
use Rattle.awk_edge.specs.Lines.{Unbroken}
use Rattle.awk_edge.specs.Units.{Framed}
use Rattle.awk_eval.specs.Variables.{Environment}
use Rattle.awk_query.specs.Line.{line_said}
use Rattle.awk_answer.specs.Answer.{answer_text}
use Rattle.awk_framing.specs.Framing.{is_blank}
use Rattle.awk_session.specs.Replies.{step, step_read, unit_step, reply, answers, answer_count}
use Rattle.awk_units.specs.Runs.{Step, answer_bytes, texts, line_ends}
use Rattle.awk_session.specs.State.{State, at_start}
use Rattle.awk_answer.proofs.LineEnds.{answer_text-unbroken}

abbrev unanswered : State Environment → Step (State Environment)
unanswered s = record { answer = None; is_fault = false; after = s }

-- a blank line has no answer, and changes nothing
pub step-blank : (s : State Environment) (line raw : List ℕ) → is_blank line ≡ true
    → step s line raw ≡ record { answer = None; is_fault = false; after = s }
unfolding step
step-blank s line raw e =
    ap (λ b. cond b (unanswered s) (step_read s (line_said s.reading line) raw)) e

-- another line is answered by the line that its JSON is
pub step-line : (s : State Environment) (line raw : List ℕ) → is_blank line ≡ false
    → step s line raw ≡ step_read s (line_said s.reading line) raw
unfolding step
step-line s line raw e =
    ap (λ b. cond b (unanswered s) (step_read s (line_said s.reading line) raw)) e

-- bytes with a line end behind them, and none within
pub record IsOneLine (bytes : List ℕ) : Type 0 where
  pub text : List ℕ
  pub all : bytes ≡ text ++ 10 ∷ []
  pub unbroken : Unbroken text

-- the answer to a line that is not blank is such a line
pub step-answer : (s : State Environment) (line raw : List ℕ) → is_blank line ≡ false
    → IsOneLine (answer_bytes (step s line raw).answer)
step-answer s line raw e =
    let said = (reply s.variables (line_said s.reading line) raw).answer in
    record {
      text = answer_text said;
      all = ap (λ (t : Step (State Environment)). answer_bytes t.answer) (step-line s line raw e);
      unbroken = answer_text-unbroken said;
    }

-- ---- the line ends written count the answers

pub line_ends-append : (xs ys : List ℕ) → line_ends (xs ++ ys) ≡ line_ends xs + line_ends ys
line_ends-append xs ys = sum_by-append (λ b. cond (b == 10) 1 0) xs ys

not_10 : (b : ℕ) → b ≢ 10 → (b == 10) ≡ false
not_10 b other = grind arith

line_ends-unbroken : (bs : List ℕ) → Unbroken bs → line_ends bs ≡ 0
line_ends-unbroken [] h = refl
line_ends-unbroken (b ∷ bs) h = rw (not_10 b h.0) (line_ends-unbroken bs h.1)

-- an answer has one line end, behind it
line_ends-step : (s : State Environment) (line raw : List ℕ)
    → line_ends (answer_bytes (step s line raw).answer) ≡ cond (not (is_blank line)) 1 0
line_ends-step s line raw = by (is_blank line) refl
  where
    by : (b : Bool) → is_blank line ≡ b
        → line_ends (answer_bytes (step s line raw).answer) ≡ cond (not b) 1 0
    by true e = rw (step-blank s line raw e) refl
    by false e =
        let said = (reply s.variables (line_said s.reading line) raw).answer in
        rw (
          step-line s line raw e,
          line_ends-append (answer_text said) (10 ∷ []),
          line_ends-unbroken (answer_text said) (answer_text-unbroken said),
        ) refl

line_ends-texts : (s : State Environment) (us : List Framed)
    → line_ends (texts unit_step s us) ≡ answer_count us
line_ends-texts s [] = refl
line_ends-texts s (u ∷ us) =
    line_ends-append (answer_bytes (unit_step s u).answer)
    (texts unit_step (unit_step s u).after us)
    ∙ rw (line_ends-step s u.line u.raw, line_ends-texts (unit_step s u).after us)
    (sym (sum_by-cons (λ (v : Framed). cond (not (is_blank v.line)) 1 0) u us))

-- the line ends of the answers to units count those that have one
pub line_ends-answers : (us : List Framed) → line_ends (answers us) ≡ answer_count us
line_ends-answers us = line_ends-texts at_start us
