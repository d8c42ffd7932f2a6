-- The items of an array that a test keeps, and how many of them stand before each place.
use Rattle.std.specs.Prelude.{◌≡◌, ℕ, ◌+◌, ◌≤◌, Bool, length, take, filter, pos}
use Rattle.awk_types.specs.Value.{Value}
use Rattle.awk_lanes.specs.Column.{Column}
use Rattle.awk_lanes.specs.Places.{size_of, at, IsIndexKind}
use Rattle.awk_layout.specs.Layout.{Layout}
use Rattle.awk_layout.specs.Typing.{array_items}
use Rattle.awk_layout.specs.Valid.{len, IsValid}

pub record KeepsItems (keep : Value → Bool) (x : Layout) (c : Column) (z : Layout) : Type 0 where
  pub valid : IsValid z
  pub column : array_items z ≡ filter keep (array_items x)
  pub kind : IsIndexKind c.kind
  pub size : size_of c ≡ len x + 1
  pub counts : (i : ℕ) → i ≤ len x
      → at c i ≡ pos (length (filter keep (take i (array_items x))))
