-- What is shown of a datum beside its value.
use Rattle.std.specs.Prelude.{Result, Ok, Err}
use Rattle.awk_types.specs.Datum.{Datum, arr, one}
use Rattle.awk_types.specs.declared.fault.Fault.TheVariants.{Size, WrongType}
use Rattle.awk_pack.specs.Canon.{Pack, canon}
use Rattle.awk_pack.specs.declared.packed.PackFault.{PackFault}
use Rattle.awk_text.specs.TypeText.{datum_type_text}
use Rattle.awk_answer.specs.Answer.{Answer, typ, packed, fault}
use Rattle.awk_answer.specs.declared.fault.AnswerFault.TheVariants.{Evaluation}

-- the text of a datum's type
abbrev pub type_shown : Datum → Answer
type_shown datum = typ (datum_type_text datum)

-- the one fault of packing is a column that is too large
abbrev pub packing : Result Pack PackFault → Answer
packing (Ok p) = packed p
packing (Err f) = fault (Evaluation Size)

-- the packed buffers of an array; a single value has none
abbrev pub pack_shown : Datum → Answer
pack_shown (arr t vs) = packing (canon t vs)
pack_shown (one t v) = fault (Evaluation WrongType)
