-- A datum without a field of its records.
use Rattle.std.specs.Prelude.{Result}
use Rattle.awk_types.specs.DataType.{Name}
use Rattle.awk_types.specs.Datum.{Datum, arr, one}
use Rattle.awk_types.specs.Gives.{refused_or}
use Rattle.awk_types.specs.declared.fault.Fault.{Fault}
use Rattle.awk_view.specs.Answer.{choice_fault, choice_answer}
use Rattle.awk_view.specs.Choice.{Choice, without, chosen_type, chosen_value}

-- what is chosen of a datum. A single value stays one.
abbrev pub choice_of : Choice → Datum → Result Datum Fault
choice_of c (arr t vs) = choice_answer c t vs
choice_of c (one t v) = refused_or (choice_fault c t) (one (chosen_type c t) (chosen_value c t v))

abbrev pub without_field_of : Name → Datum → Result Datum Fault
without_field_of name d = choice_of (without name) d
