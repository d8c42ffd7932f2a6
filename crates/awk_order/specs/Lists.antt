-- What is made of the lists of a column, by their items one after another.
use Rattle.std.specs.Prelude.{◌≡◌, ℕ, ◌+◌, ◌-◌, ◌<◌, ◌≤◌, ◌^◌, true, List}
use Rattle.awk_types.specs.DataType.{DataType}
use Rattle.awk_types.specs.ItemLimit.{item_limit}
use Rattle.awk_types.specs.Predicates.{is_leaf}
use Rattle.awk_types.specs.Simple.{present}
use Rattle.awk_types.specs.Value.{Value, value_list}
use Rattle.awk_lanes.specs.Column.{Column}
use Rattle.awk_lanes.specs.Places.{place_at}
use Rattle.awk_layout.specs.Item.{run}
use Rattle.awk_layout.specs.Layout.{Layout}
use Rattle.awk_layout.specs.Typing.{array_type, array_items}
use Rattle.awk_layout.specs.Valid.{len, IsValid}
use Rattle.awk_gather.specs.Arrays.{array_item}
use Rattle.awk_parts.specs.Parts.{AreRising}
use Rattle.awk_present.specs.Present.{list_at}

-- items of n lists one after another, which are leaves
pub record AreItems (z : Layout) (o : Column) (n : ℕ) : Type 0 where
  pub leaves : is_leaf (present (array_type z)) ≡ true
  pub rising : AreRising o n (len z)
  pub first : place_at o 0 ≡ 0
  pub last : place_at o n ≡ len z
  pub few : len z ≤ item_limit
  pub fits : n < 2 ^ 63

-- items of a type in lists of the same lengths, each by a function of the list
pub record AreMade (t : DataType) (items : List Value → List Value) (z : Layout) (o : Column)
    (n : ℕ) (y : Layout) : Type 0 where
  pub valid : IsValid y
  pub size : len y ≡ len z
  pub typ : array_type y ≡ t
  pub lists : (i : ℕ) → i < n
      → value_list (run (array_item y) (place_at o i) (place_at o (i + 1) - place_at o i))
      ≡ items (list_at (array_items z) o i)
