-- What a load line loads.
use Rattle.std.specs.Prelude.{ℕ, Bool, List, [], length, Option, Some, None, Result, Ok, Err}
use Rattle.serde_json.specs.Data.{Data}
use Rattle.awk_types.specs.DataType.{Name}
use Rattle.awk_types.specs.Datum.{Datum}
use Rattle.awk_store.specs.Buffers.{ByKey, Held, texts_of, only_texts}
use Rattle.awk_query.specs.Line.{Buffers, texts, parts}
use Rattle.awk_form.specs.FormTree.{FormTree}
use Rattle.awk_form.specs.Reading as forms
use Rattle.awk_form.specs.Reading.{reading}
use Rattle.awk_valid.specs.Broken as walk
use Rattle.awk_valid.specs.Container.{container_of}
use Rattle.awk_valid.specs.Denote.{denoting}
use Rattle.awk_answer.specs.declared.fault.AnswerFault.{AnswerFault}
use Rattle.awk_answer.specs.declared.fault.AnswerFault.TheVariants.{Cut}
use Rattle.awk_answer.specs.Refusals.{form_fault, walk_fault}
use Rattle.awk_load_line.specs.Parts.{cut_key, parted}

abbrev pub walked : Result Datum walk.Refusal → Result Datum AnswerFault
walked (Ok datum) = Ok datum
walked (Err refusal) = Err (walk_fault refusal)

abbrev pub loaded_from : Result FormTree forms.Refusal → ℕ → Bool → Held
    → Result Datum AnswerFault
loaded_from (Ok f) n big held = walked (denoting f n (container_of big held))
loaded_from (Err refusal) n big held = Err (form_fault refusal)

-- the array that a form, a length, an order of bytes and buffers denote, or the fault that refuses
-- them: the form is judged first
abbrev pub loaded : Data → ℕ → Bool → Held → Result Datum AnswerFault
loaded d n big held = loaded_from (reading d) n big held

-- ---- buffers of a line

-- bytes alone
abbrev pub only_raws : ByKey → Held
only_raws raws = record { texts = []; raws = raws }

-- unless the bytes of some key are not all there
abbrev pub unless_cut : Option Name → Result Datum AnswerFault → Result Datum AnswerFault
unless_cut (Some key) made = Err (Cut key)
unless_cut None made = made

-- What a load line loads, with the raw bytes behind it: these are looked at before the form is
-- judged.
abbrev pub line_loaded : Data → ℕ → Bool → Buffers → List ℕ → Result Datum AnswerFault
line_loaded d n big (texts ms) raw = loaded d n big (only_texts (texts_of ms))
line_loaded d n big (parts ps) raw =
    unless_cut (cut_key ps (length raw)) (loaded d n big (only_raws (parted ps raw)))
