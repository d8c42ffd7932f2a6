-- JSON lists as lists of values.
use Rattle.std.proofs.Common.{◌≡◌, List, [], ◌∷◌, map, refl, ap}
use Rattle.serde_json.specs.View.{view, items_view}
use Rattle.serde_json.specs.declared.value.Value.{Value}
use Rattle.awk_form.specs.Node.{values_of}

pub values_of-items_view : (vs : List Value) → values_of (items_view vs) ≡ map view vs
values_of-items_view [] = refl
values_of-items_view (v ∷ vs) = ap (λ ds. view v ∷ ds) (values_of-items_view vs)
