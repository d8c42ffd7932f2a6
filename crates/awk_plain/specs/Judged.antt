-- What is asked of each number and of texts, whatever the types.
use Rattle.std.specs.Prelude.{Bool, true, false, Option}
use Rattle.serde_json.specs.Data.{Data, Num}
use Rattle.awk_types.specs.Gives.{◌or◌}
use Rattle.awk_types.specs.declared.fault.Fault.{Fault}
use Rattle.awk_types.specs.declared.fault.Fault.TheVariants.{WrongType, Overflow}
use Rattle.awk_plain.specs.Plain.{is_whole, fits, all_pass, refused_unless}
use Rattle.awk_plain.specs.declared.judged.Test.{Test}
use Rattle.awk_plain.specs.declared.judged.Test.TheVariants.{Whole, Fits}

abbrev pub number_passes : Test → Num → Bool
number_passes Whole n = is_whole n
number_passes Fits n = fits n

abbrev pub text_passes : Test → Bool
text_passes Whole = false
text_passes Fits = true

abbrev pub passes : Test → Data → Bool
passes test d = all_pass (number_passes test) (text_passes test) d

-- what is told before any type is made
abbrev pub value_fault : Data → Option Fault
value_fault d =
    refused_unless (all_pass is_whole false d) WrongType
    or refused_unless (all_pass fits true d) Overflow
