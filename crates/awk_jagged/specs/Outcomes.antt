-- What is picked from lists by others in pairs, or why not.
use Rattle.std.specs.Prelude.{◌≡◌, ℕ, true, false, Some, None, option_map}
use Rattle.awk_types.specs.DataType.{DataType}
use Rattle.awk_types.specs.Simple.{simple}
use Rattle.awk_types.specs.declared.fault.Fault.TheVariants.{Size}
use Rattle.awk_lanes.specs.Column.{Column}
use Rattle.awk_lanes.specs.Counted.{offsets_by}
use Rattle.awk_lanes.specs.Places.{size_of}
use Rattle.awk_layout.specs.Layout.{Layout}
use Rattle.awk_layout.specs.Typing.{array_type, array_items}
use Rattle.awk_layout.specs.Valid.{IsValid}
use Rattle.awk_columns.specs.Lists.{Listed}
use Rattle.awk_jagged.specs.Jagged.{pick_type, are_uneven, lacks_places, size_refused}
use Rattle.awk_jagged.specs.Pairs.{AreEven, IsUneven, HaveAll, LackSome, picks}
use Rattle.awk_jagged_rows.specs.Sides.{ListsBy}
use Rattle.awk_jagged.specs.Pairs.{picked_length}
use Rattle.awk_jagged_rows.specs.Rows.{lists_by}
use Rattle.awk_jagged.specs.declared.leaves.Outcome.{Outcome}
use Rattle.awk_jagged.specs.declared.leaves.Outcome.TheVariants as outcome
use Rattle.awk_jagged.specs.declared.picking.Told.{Told}
use Rattle.awk_jagged.specs.declared.picking.Told.TheVariants as told

-- what the first n lists give by an index of type u, as offsets and their items: those that are
-- picked from items of type t
pub record ArePickedLists (t u : DataType) (x w : ListsBy) (n : ℕ) (o : Column) (y : Layout)
    : Type 0 where
  pub even : AreEven u x w n
  pub have : HaveAll u x w n
  pub few : size_refused u (picks u x w n) ≡ None
  pub typ : option_map simple (pick_type u t) ≡ Some (array_type y)
  pub valid : IsValid y
  pub offsets : o ≡ offsets_by (picked_length u x w) n
  pub items : array_items y ≡ picks u x w n

pub record AreTooMany (u : DataType) (x w : ListsBy) (n : ℕ) : Type 0 where
  pub even : AreEven u x w n
  pub have : HaveAll u x w n
  pub many : size_refused u (picks u x w n) ≡ Some Size

abbrev pub IsOutcome : DataType → DataType → ListsBy → ListsBy → ℕ → Outcome → Type 0
IsOutcome t u x w n outcome.Uneven = IsUneven u x w n
IsOutcome t u x w n outcome.Outside = AreEven u x w n × LackSome u x w n
IsOutcome t u x w n outcome.TooMany = AreTooMany u x w n
IsOutcome t u x w n (outcome.Lists o y) = ArePickedLists t u x w n o y

-- the same of lists by lanes
abbrev pub IsOutcomeOf : Listed → Listed → Outcome → Type 0
IsOutcomeOf xs ws o = IsOutcome (array_type xs.content) (array_type ws.content)
    (lists_by xs) (lists_by ws) (size_of ws.starts) o

-- what is told of the pair at a place
abbrev pub IsTold : Listed → Listed → ℕ → Told → Type 0
IsTold xs ws i told.Uneven =
    are_uneven (array_type ws.content) (lists_by xs i) (lists_by ws i) ≡ true
IsTold xs ws i told.Outside =
    (are_uneven (array_type ws.content) (lists_by xs i) (lists_by ws i) ≡ false)
    × (lacks_places (array_type ws.content) (lists_by xs i) (lists_by ws i) ≡ true)
IsTold xs ws i told.Nothing =
    (are_uneven (array_type ws.content) (lists_by xs i) (lists_by ws i) ≡ false)
    × (lacks_places (array_type ws.content) (lists_by xs i) (lists_by ws i) ≡ false)

-- what an outcome of the rows of a pair tells of it
abbrev pub IsToldBy : Outcome → Told → Type 0
IsToldBy outcome.Uneven t = t ≡ told.Uneven
IsToldBy outcome.Outside t = t ≡ told.Outside
IsToldBy outcome.TooMany t = t ≡ told.Nothing
IsToldBy (outcome.Lists o y) t = t ≡ told.Nothing
