-- The operands that those in code stand for.
use Rattle.std.specs.Prelude.{List, map}
use Rattle.awk_layout.specs.Filler.{filler_of}
use Rattle.awk_layout.specs.declared.datum.Operand as code
use Rattle.awk_arguments.specs.Operand.{Operand}

abbrev pub shown_operands : List code.Operand → List Operand
shown_operands operands = map filler_of operands
