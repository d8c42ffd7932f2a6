-- Worked heights of variables, each computed.
use Rattle.std.specs.Prelude.{◌≡◌, pos, true, false, [], ◌∷◌, codes, Some, None, refl}
use Rattle.awk_lanes.specs.Column.{Column}
use Rattle.awk_lanes.specs.declared.kind.Kind.TheVariants.{I64}
use Rattle.awk_layout.specs.Layout.{flat, unmasked}
use Rattle.awk_layout.specs.declared.datum.Datum.TheVariants.{Arr, One}
use Rattle.awk_eval.specs.Heights.{highest, is_array_view}
use Rattle.awk_eval.specs.Variables.{Variables}

abbrev sevens : Column
sevens = record { kind = I64; items = pos 7 ∷ [] }

-- `a` is [7], an option twice, and `b` is 7
abbrev bound : Variables
bound =
    (codes "a", Arr (unmasked 1 (unmasked 1 (flat sevens)))) ∷
    (codes "b", One (flat sevens)) ∷
    []

highest_of_both : highest bound ≡ 3
highest_of_both = refl

-- a view of the array is given as it stands, one of the single value is not
view_of_array : is_array_view bound (Some (record { name = codes "a"; count = 2 })) ≡ true
view_of_array = refl

view_of_single : is_array_view bound (Some (record { name = codes "b"; count = 2 })) ≡ false
view_of_single = refl

no_view : is_array_view bound None ≡ false
no_view = refl
