-- Variables as the engine holds them, names and layouts, and the environment that they stand for,
-- which knows types and values alone.
use Rattle.std.specs.Coded.{Coded, coded_list, coded×, coded_ℕ}
use Rattle.awk_types.specs.Datum as shown
use Rattle.awk_layout.specs.Datum.{datum_of}
use Rattle.awk_layout.specs.DatumCode.{coded_datum}
use Rattle.awk_layout.specs.declared.datum.Datum.{Datum}
use Rattle.awk_eval.specs.Bindings.{Bindings, each}

-- names and data of layouts
abbrev pub Variables : Type 0
Variables = Bindings Datum

abbrev pub coded_variables : Coded Variables
coded_variables = coded_list (coded× (coded_list coded_ℕ) coded_datum)

-- names and data of types and values
abbrev pub Environment : Type 0
Environment = Bindings shown.Datum

-- what variables stand for
abbrev pub denoted : Variables → Environment
denoted variables = each datum_of variables
