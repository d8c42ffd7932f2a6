-- What the engine answers to a line, and to the units of a session.
use Rattle.std.specs.Prelude.{ℕ, Bool, false, not, List, count_by, Some, None, Result, Ok, Err}
use Rattle.std.specs.Prelude.{if◌then◌else◌}
use Rattle.awk_types.specs.DataType.{Name}
use Rattle.awk_types.specs.Datum.{Datum}
use Rattle.awk_types.specs.declared.fault.Fault.{Fault}
use Rattle.awk_edge.specs.Units.{Framed}
use Rattle.awk_plain.specs.Plain.{from_values}
use Rattle.awk_query.specs.Line as lines
use Rattle.awk_query.specs.Line.{Line, line_said}
use Rattle.awk_query.specs.declared.reading.Reading.{Reading}
use Rattle.awk_expr.specs.Told.{Unread, json, query}
use Rattle.awk_eval.specs.Bindings as bindings
use Rattle.awk_eval.specs.Bindings.{bind}
use Rattle.awk_eval.specs.Variables.{Environment}
use Rattle.awk_eval.specs.Eval.{eval}
use Rattle.awk_framing.specs.Framing.{is_blank, reading_behind}
use Rattle.awk_load_line.specs.Load.{line_loaded}
use Rattle.awk_units.specs.Runs.{Step, texts, any_fault}
use Rattle.awk_session.specs.State.{State, at_start}
use Rattle.awk_answer.specs.declared.fault.AnswerFault.{AnswerFault}
use Rattle.awk_answer.specs.declared.fault.AnswerFault.TheVariants.{Json, Query, Evaluation}
use Rattle.awk_answer.specs.Answer.{Answer, begun, bound, value, names, fault, is_fault}
use Rattle.awk_answer.specs.Answer.{answer_text}
use Rattle.awk_answer.specs.Shown.{type_shown, pack_shown}

-- an answer, and the variables afterwards
pub record Reply : Type 0 where
  pub answer : Answer
  pub after : Environment

-- an answer that leaves the variables as they are
abbrev pub answering : Environment → Answer → Reply
answering variables a = record { answer = a; after = variables }

-- a name is bound to what is made for it; where that is a fault, nothing changes
abbrev pub reply_bind : Environment → Name → Result Datum AnswerFault → Reply
reply_bind variables n (Ok datum) = record { answer = bound n; after = bind n datum variables }
reply_bind variables n (Err f) = answering variables (fault f)

-- what an operation gives, where its faults are told as answers
abbrev pub evaluated : Result Datum Fault → Result Datum AnswerFault
evaluated (Ok datum) = Ok datum
evaluated (Err f) = Err (Evaluation f)

-- what is told of a datum, or its fault
abbrev pub telling : (Datum → Answer) → Result Datum Fault → Answer
telling tell (Ok datum) = tell datum
telling tell (Err f) = fault (Evaluation f)

-- The line that begins version 2 answers itself. A load line may have raw bytes behind it, and a
-- values line binds the array of its list.
abbrev pub reply_line : Environment → Line → List ℕ → Reply
reply_line variables (lines.load n form length big buffers) raw =
    reply_bind variables n (line_loaded form length big buffers raw)
reply_line variables lines.session raw = answering variables begun
reply_line variables (lines.values n list) raw =
    reply_bind variables n (evaluated (from_values list))
reply_line variables (lines.bind n e) raw = reply_bind variables n (evaluated (eval variables e))
reply_line variables (lines.show e) raw = answering variables (telling value (eval variables e))
reply_line variables (lines.type_of e) raw =
    answering variables (telling type_shown (eval variables e))
reply_line variables (lines.pack e) raw =
    answering variables (telling pack_shown (eval variables e))
reply_line variables lines.names raw = answering variables (names (bindings.names variables))

abbrev pub reply : Environment → Result Line Unread → List ℕ → Reply
reply variables (Ok line) raw = reply_line variables line raw
reply variables (Err json) raw = answering variables (fault Json)
reply variables (Err query) raw = answering variables (fault Query)

-- the answer of a reply, and the next line is read so
abbrev pub step_of : Reading → Reply → Step (State Environment)
step_of r reply = record {
  answer = Some (answer_text reply.answer);
  is_fault = is_fault reply.answer;
  after = record { reading = r; variables = reply.after };
}

-- a line, as it is read where the session stands, is answered with its raw bytes
abbrev pub step_read : State Environment → Result Line Unread → List ℕ → Step (State Environment)
step_read s said raw = step_of (reading_behind s.reading said) (reply s.variables said raw)

-- The answer to a line with its raw bytes. A blank line has no answer and changes nothing.
unfoldable pub step : State Environment → List ℕ → List ℕ → Step (State Environment)
step s line raw =
    if is_blank line then record { answer = None; is_fault = false; after = s }
    else step_read s (line_said s.reading line) raw

abbrev pub unit_step : State Environment → Framed → Step (State Environment)
unit_step s u = step s u.line u.raw

-- the answers to a session's units, each with its line end
abbrev pub answers : List Framed → List ℕ
answers us = texts unit_step at_start us

-- whether some answer is a fault
abbrev pub has_fault : List Framed → Bool
has_fault us = any_fault unit_step at_start us

-- how many units have an answer
abbrev pub answer_count : List Framed → ℕ
answer_count us = count_by (λ (u : Framed). not (is_blank u.line)) us
