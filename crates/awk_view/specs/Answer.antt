-- What a choice of fields answers: its fault, or the type and the items of what is chosen.
use Rattle.std.specs.Prelude.{List, map, Option, option_map, Result}
use Rattle.awk_types.specs.DataType.{DataType}
use Rattle.awk_types.specs.Value.{Value}
use Rattle.awk_types.specs.Datum.{Datum, arr}
use Rattle.awk_types.specs.Gives.{refused_or, ◌or◌}
use Rattle.awk_types.specs.Limit.{limit}
use Rattle.awk_types.specs.Faults.{limit_fault}
use Rattle.awk_types.specs.declared.fault.Fault.{Fault}
use Rattle.awk_types.specs.declared.fault.Fault.TheVariants.{NoField}
use Rattle.awk_layout.specs.Layout.{Layout}
use Rattle.awk_layout.specs.Typing.{array_type, array_items}
use Rattle.awk_view.specs.Choice.{Choice, absent, chosen_type, chosen_value}

-- the first fault: a field that is not found, and then a limit that the type of what is chosen
-- passes
abbrev pub choice_fault : Choice → DataType → Option Fault
choice_fault c t =
    option_map NoField (absent c t) or option_map limit_fault (limit (chosen_type c t))

-- of items of a type
abbrev pub choice_answer : Choice → DataType → List Value → Result Datum Fault
choice_answer c t vs =
    refused_or (choice_fault c t) (arr (chosen_type c t) (map (chosen_value c t) vs))

-- of an array
abbrev pub view_answer : Choice → Layout → Result Datum Fault
view_answer c x = choice_answer c (array_type x) (array_items x)
