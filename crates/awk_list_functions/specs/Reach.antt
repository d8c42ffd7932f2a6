-- Which lists a function is applied to: each list at an axis, where axis 0 is the lists directly
-- inside, or each
-- innermost list, whose items, options dropped, are leaves or unknown.
use Rattle.std.specs.Prelude.{◌-◌, ◌==◌, Bool, true, false}
use Rattle.awk_types.specs.DataType.{DataType}
use Rattle.awk_types.specs.Simple.{present}
use Rattle.awk_types.specs.Predicates.{is_leaf}
use Rattle.awk_list_functions.specs.declared.place.Reach.{Reach}
use Rattle.awk_list_functions.specs.declared.place.Reach.TheVariants.{Axis, Innermost}

-- whether a list of these items is one of the lists
abbrev pub here : Reach → DataType → Bool
here (Axis k) t = k == 0
here Innermost t = is_leaf (present t)

-- the same, from inside a list
abbrev pub inner : Reach → Reach
inner (Axis k) = Axis (k - 1)
inner Innermost = Innermost

-- whether rows and unions are gone through
abbrev pub passes_rows : Reach → Bool
passes_rows (Axis k) = true
passes_rows Innermost = false
