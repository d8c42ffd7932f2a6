-- JSON lists as lists of values.
use Rattle.std.proofs.Common.{◌≡◌, List, [], ◌∷◌, map, refl, ap}
use Rattle.serde_json.specs.View.{view, items_view}
use Rattle.serde_json.specs.declared.value.Value.{Value}
use Rattle.awk_expr.specs.Arguments.{item_list}

pub item_list-items_view : (vs : List Value) → item_list (items_view vs) ≡ map view vs
item_list-items_view [] = refl
item_list-items_view (v ∷ vs) = ap (λ ds. view v ∷ ds) (item_list-items_view vs)
