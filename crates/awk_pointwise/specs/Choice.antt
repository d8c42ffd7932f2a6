-- Choices between two sides by a third.
use Rattle.std.specs.Prelude.{ℕ, ◌<◌, ℤ, pos, List, if◌then◌else◌}
use Rattle.awk_types.specs.Parts.{number_of}
use Rattle.awk_types.specs.Predicates.{is_null}
use Rattle.awk_types.specs.Value.{Value}
use Rattle.awk_types.specs.declared.primitive.Primitive.{Primitive}
use Rattle.awk_leaves.specs.Values.{chosen_at}
use Rattle.awk_pointwise.specs.Optional.{masked_values, optional_at, HasPlace}
use Rattle.awk_pointwise.specs.Sides.{IsLeafNumber}
use Rattle.awk_pointwise.specs.declared.choice.Choice.{Choice}
use Rattle.awk_pointwise.specs.declared.choice.Chosen.{Chosen}

-- the values that were chosen
abbrev pub chosen_items : Chosen → List Value
chosen_items r = masked_values r.nulls r.lane

-- what is chosen at a place
abbrev pub chosen_value : Choice → ℕ → Value
chosen_value s i = chosen_at (optional_at i s.condition.now) (optional_at i s.x.now)
    (optional_at i s.y.now)

abbrev pub null_number : Value → ℤ
null_number v = pos (if is_null v then 1 else 0)

pub record HasPlaces (i : ℕ) (s : Choice) : Type 0 where
  pub condition : HasPlace i s.condition.now
  pub first : HasPlace i s.x.now
  pub second : HasPlace i s.y.now

abbrev pub AreWithin : ℕ → Choice → Type 0
AreWithin n s = (i : ℕ) → i < n → HasPlaces i s

-- what is chosen at each place is a number of the primitive, or null
pub record AreChosen (n : ℕ) (p : Primitive) (s : Choice) : Type 0 where
  pub within : AreWithin n s
  pub numbers : (i : ℕ) → i < n → IsLeafNumber p (number_of (chosen_value s i))
