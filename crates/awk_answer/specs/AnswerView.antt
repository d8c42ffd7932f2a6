-- The answers that those in code stand for.
use Rattle.std.specs.Prelude.{◌≢◌, Bool, true, false}
use Rattle.awk_types.specs.declared.fault.Fault.TheVariants.{NoMemory}
use Rattle.awk_layout.specs.Datum.{datum_of, IsDatum}
use Rattle.awk_pack.specs.Shown.{packed_of}
use Rattle.awk_text.specs.PackedText.{HasLanes}
use Rattle.awk_answer.specs.declared.answer.Answer as code
use Rattle.awk_answer.specs.declared.answer.Answer.TheVariants as variant
use Rattle.awk_answer.specs.declared.answer.Answered.{Answered}
use Rattle.awk_answer.specs.declared.answer.Answered.TheVariants.{Fine, Fault}
use Rattle.awk_answer.specs.declared.fault.AnswerFault.{AnswerFault}
use Rattle.awk_answer.specs.declared.fault.AnswerFault.TheVariants.{Evaluation}
use Rattle.awk_answer.specs.Answer.{Answer, begun, bound, value, typ, packed, names, fault}

abbrev pub answer_view : code.Answer → Answer
answer_view variant.Session = begun
answer_view (variant.Bound n) = bound n.now
answer_view (variant.Value d) = value (datum_of d)
answer_view (variant.Type text) = typ text.items
answer_view (variant.Packed p) = packed (packed_of p)
answer_view (variant.Names ns) = names ns
answer_view (variant.Fault f) = fault f

-- want of memory is no answer
abbrev pub IsTold : AnswerFault → Type 0
IsTold (Evaluation f) = f ≢ NoMemory
IsTold _ = Unit {0}

-- a single value is an array of one item, a packed array has as many lanes as buffers, and a fault
-- is told
abbrev pub IsAnswer : code.Answer → Type 0
IsAnswer (variant.Value d) = IsDatum d
IsAnswer (variant.Packed p) = HasLanes (packed_of p)
IsAnswer (variant.Fault f) = IsTold f
IsAnswer _ = Unit {0}

-- whether the answer was a fault
abbrev pub kind_is_fault : Answered → Bool
kind_is_fault Fine = false
kind_is_fault Fault = true
