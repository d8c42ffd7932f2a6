-- The faults that the calls of this crate tell.
use Rattle.std.specs.Prelude.{Option, Some, None}
use Rattle.awk_answer.specs.declared.fault.AnswerFault.{AnswerFault}
use Rattle.awk_answer.specs.declared.fault.Refused.{Refused}
use Rattle.awk_answer.specs.declared.fault.Refused.TheVariants.{Told, NoMemory}

-- want of memory is told as none
abbrev pub refused_told : Refused → Option AnswerFault
refused_told (Told f) = Some f
refused_told NoMemory = None
