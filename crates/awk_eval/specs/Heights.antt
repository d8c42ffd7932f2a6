-- How high what an expression gives may be: no higher than what the variables hold, or than its
-- own type asks for.
use Rattle.std.specs.Prelude.{◌≤◌, ℕ, max, not, Bool, true, false, map, Option, Some, None}
use Rattle.awk_types.specs.DataType.{greatest}
use Rattle.awk_layout.specs.Datum.{kept}
use Rattle.awk_layout.specs.Layout.{height}
use Rattle.awk_layout.specs.Typing.{array_type}
use Rattle.awk_layout.specs.declared.datum.Datum.{Datum}
use Rattle.awk_layout.specs.declared.datum.Datum.TheVariants.{Arr, One}
use Rattle.awk_heights.specs.Low.{height_limit}
use Rattle.awk_eval.specs.Bindings.{look_up}
use Rattle.awk_eval.specs.Variables.{Variables}
use Rattle.awk_eval.specs.Views.{View}

-- the greatest height of what the names are bound to, or 0
abbrev pub highest : Variables → ℕ
highest variables = greatest (map (λ v. height (kept v.1)) variables)

-- a datum is no higher than these, or than its type asks for
abbrev pub IsNoHigher : Variables → Datum → Type 0
IsNoHigher variables d =
    height (kept d) ≤ max (highest variables) (height_limit (array_type (kept d)))

-- ---- views of arrays

abbrev pub is_single : Option Datum → Bool
is_single None = false
is_single (Some (Arr x)) = false
is_single (Some (One x)) = true

-- whether a view is of a variable that is not bound to a single value
abbrev pub is_array_view : Variables → Option View → Bool
is_array_view variables None = false
is_array_view variables (Some v) = not (is_single (look_up v.name variables))
