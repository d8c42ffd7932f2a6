-- The texts of the faults of operations, as answers.
use Rattle.std.specs.Prelude.{[], ◌++◌, codes}
use Rattle.awk_types.specs.declared.fault.Fault.{Fault}
use Rattle.awk_types.specs.declared.fault.Fault.TheVariants as fault
use Rattle.awk_json.specs.Text.{quoted}
use Rattle.awk_form.specs.FormText.{Text}

-- without the line's end; want of memory is no answer
abbrev pub fault_text : Fault → Text
fault_text (fault.Unbound n) = codes "{\"fault\":\"name\",\"name\":" ++ quoted n ++ codes "}"
fault_text (fault.NoField n) = codes "{\"fault\":\"field\",\"field\":" ++ quoted n ++ codes "}"
fault_text fault.Axis = codes "{\"fault\":\"axis\"}"
fault_text fault.WrongType = codes "{\"fault\":\"type\"}"
fault_text fault.Overflow = codes "{\"fault\":\"overflow\"}"
fault_text fault.Zero = codes "{\"fault\":\"zero\"}"
fault_text fault.Depth = codes "{\"fault\":\"depth\"}"
fault_text fault.Size = codes "{\"fault\":\"size\"}"
fault_text fault.Lengths = codes "{\"fault\":\"lengths\"}"
fault_text fault.Index = codes "{\"fault\":\"index\"}"
fault_text fault.NoMemory = []
