-- The types and the values of the items of a list, one by one.
use Rattle.std.proofs.Common.{List, [], ◌∷◌}
use Rattle.serde_json.specs.Data.{Items, no_items, item}
use Rattle.awk_types.specs.DataType.{DataType}
use Rattle.awk_types.specs.Has.{Has}
use Rattle.awk_types.specs.IsType.{IsType}
use Rattle.awk_types.specs.Simple.{IsSimple}
use Rattle.awk_types.specs.Value.{Value}
use Rattle.awk_unify.specs.Carry.{Carry, carried}
use Rattle.awk_plain.specs.Plain.{plain_type, plain_value}

abbrev pub types_of : Items → List DataType
types_of no_items = []
types_of (item d ds) = plain_type d ∷ types_of ds

abbrev pub values_of : Items → List Value
values_of no_items = []
values_of (item d ds) = plain_value d ∷ values_of ds

-- each value by its carry
abbrev pub carried_each : List Carry → List Value → List Value
carried_each (f ∷ fs) (v ∷ vs) = carried f v ∷ carried_each fs vs
carried_each fs vs = []

-- each member has a simple type, and is a value of it
abbrev pub AreTyped : Items → Type 0
AreTyped no_items = Unit {0}
AreTyped (item d ds) =
    (IsType (plain_type d) × IsSimple (plain_type d) × Has (plain_type d) (plain_value d))
    × AreTyped ds
