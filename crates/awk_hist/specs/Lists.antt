-- Lists whose items lie one after another.
use Rattle.std.specs.Prelude.{◌≡◌, ℕ, ◌+◌, ◌-◌, ◌*◌, ◌<◌}
use Rattle.std.specs.Prelude.{◌≤◌, ◌^◌, true, Bool, List, length, cond}
use Rattle.std.specs.Prelude.{Some, None, pos}
use Rattle.std.specs.List.{count_by, flat_map}
use Rattle.awk_types.specs.DataType.{DataType, depth}
use Rattle.awk_types.specs.ItemLimit.{item_limit}
use Rattle.awk_types.specs.Simple.{present}
use Rattle.awk_types.specs.Value.{Value, null}
use Rattle.awk_types.specs.WholeNumbers.{is_numbers}
use Rattle.awk_types.specs.declared.fault.Fault.TheVariants.{Size}
use Rattle.awk_lanes.specs.Column.{Column}
use Rattle.awk_lanes.specs.Made.{lane_of}
use Rattle.awk_lanes.specs.Places.{place_at}
use Rattle.awk_lanes.specs.declared.kind.Kind.TheVariants.{I64}
use Rattle.awk_layout.specs.Layout.{Layout}
use Rattle.awk_layout.specs.Typing.{array_type, array_items}
use Rattle.awk_parts.specs.Parts.{AreRising}
use Rattle.awk_hist.specs.Hist.{leaves, lists_refused}
use Rattle.awk_hist.specs.declared.innermost.Innermost.{Innermost}
use Rattle.awk_hist.specs.declared.innermost.Innermost.TheVariants as innermost

-- items of n lists one after another, which are numbers or null
pub record AreItems (z : Layout) (o : Column) (n : ℕ) : Type 0 where
  pub numbers : is_numbers (present (array_type z)) ≡ true
  pub rising : AreRising o n (length (array_items z))
  pub first : place_at o 0 ≡ 0
  pub last : place_at o n ≡ length (array_items z)
  pub few : length (array_items z) ≤ item_limit
  pub fits : n < 2 ^ 63

-- how many items of list i are null, by the offsets of all and of those that are not, and more
abbrev pub null_count : Column → Column → ℕ → ℕ → ℕ
null_count o p more i =
    (place_at o (i + 1) - place_at o i) - (place_at p (i + 1) - place_at p i) + more

abbrev pub null_lane : Column → Column → ℕ → ℕ → Column
null_lane o p more n = lane_of I64 n (λ i. pos (null_count o p more i))

-- offsets of n lists and of those of their items that are not null
pub record AreNullsReady (o p : Column) (n : ℕ) : Type 0 where
  pub all : AreRising o n item_limit
  pub some : AreRising p n item_limit
  pub fewer : (i : ℕ) → i < n
      → place_at p (i + 1) - place_at p i ≤ place_at o (i + 1) - place_at o i

-- the leaves of a column come to those of another, of leaves alone, and more nulls
pub record ComeTo (t : DataType) (vs : List Value) (z : Layout) (more : ℕ) : Type 0 where
  pub numbers : is_numbers (present (array_type z)) ≡ true
  pub few : length (array_items z) ≤ item_limit
  pub nulls : more ≤ item_limit * depth t
  pub counts : (p : Value → Bool) → count_by p (flat_map (leaves t) vs)
      ≡ count_by p (array_items z) + cond (p null) more 0

abbrev pub IsInnermost : DataType → List Value → Innermost → Type 0
IsInnermost t vs innermost.TooMany = lists_refused t vs ≡ Some Size
IsInnermost t vs (innermost.Column z more) =
    (lists_refused t vs ≡ None) × ComeTo t vs z more
