-- The least or the greatest item of a list, and its first place.
use Rattle.std.specs.Prelude.{◌≡◌, ℕ, ◌<◌, true, false, List, length, get_or}
use Rattle.std.specs.List.{Contains}
use Rattle.awk_types.specs.Parts.{number_of}
use Rattle.awk_types.specs.Value.{Value, null}
use Rattle.awk_columns.specs.Columns.{is_present}
use Rattle.awk_numbers.specs.Folds.{beats}
use Rattle.awk_numbers.specs.declared.extremes.Extreme.{Extreme}

-- an item that is not null, and that no other such item is less than, or greater than
pub record IsExtreme (how : Extreme) (vs : List Value) (v : Value) : Type 0 where
  pub item : Contains vs v
  pub present : is_present v ≡ true
  pub unbeaten : (i : ℕ) → i < length vs → is_present (get_or vs i null) ≡ true
      → beats how (number_of (get_or vs i null)) (number_of v) ≡ false

-- the first place of such an item: it is less, or greater, than all items before it
pub record IsFirstExtreme (how : Extreme) (vs : List Value) (k : ℕ) : Type 0 where
  pub inside : k < length vs
  pub extreme : IsExtreme how vs (get_or vs k null)
  pub first : (i : ℕ) → i < k → is_present (get_or vs i null) ≡ true
      → beats how (number_of (get_or vs k null)) (number_of (get_or vs i null)) ≡ true
