-- What the steps of packing give: lanes are put behind others, node by node in pre-order.
use Rattle.std.specs.Prelude.{◌≡◌, ◌<◌, ℕ, Bool, true, false, nat_lt, List, ◌++◌, length, map}
use Rattle.std.specs.Prelude.{Result, Ok, Err}
use Rattle.std.specs.List.{flat_map, list_any}
use Rattle.awk_types.specs.DataType.{DataType, nodes}
use Rattle.awk_types.specs.Value.{Value}
use Rattle.awk_types.specs.ItemLimit.{item_limit}
use Rattle.awk_types.specs.declared.fault.Fault.{Fault}
use Rattle.awk_types.specs.declared.fault.Fault.TheVariants as fault
use Rattle.awk_lanes.specs.Column.{Column}
use Rattle.awk_lanes.specs.Places.{size_of, at}
use Rattle.awk_lanes.specs.declared.kind.Kind.TheVariants as kind
use Rattle.awk_layout.specs.Layout.{Layout}
use Rattle.awk_layout.specs.Typing.{array_type, array_items}
use Rattle.awk_columns.specs.Columns.{joined_items, offsets}
use Rattle.awk_columns.specs.Lists.{Listed}
use Rattle.awk_open.specs.InOrder.{IsInOrder}
use Rattle.awk_lanes.specs.Made.{lane_of as read_lane}
use Rattle.awk_open.specs.Opened.{IsKindOf}
use Rattle.awk_open.specs.declared.opening.Opened.{Opened}
use Rattle.awk_open.specs.declared.opening.Opened.TheVariants.{Items}
use Rattle.awk_pack.specs.Columns.{Placed, placed}
use Rattle.awk_pack.specs.Lanes.{lane_of}
use Rattle.awk_pack.specs.PackedForm.{all_nodes}
use Rattle.awk_pack.specs.Canon.{is_too_long, is_too_large, lanes_of}
use Rattle.awk_pack.specs.declared.packed.PackFault.{PackFault}
use Rattle.awk_pack.specs.declared.packed.PackFault.TheVariants.{Size, NoMemory}

-- what holds where a fault is `Size`
abbrev pub OnSize : PackFault → Type 0 → Type 0
OnSize Size P = P
OnSize NoMemory P = Unit {0}

-- what holds where a call tells `Size`
abbrev pub IfSize : {A : Type 0} → Result A PackFault → Type 0 → Type 0
IfSize (Err e) P = OnSize e P
IfSize (Ok a) P = Unit {0}

-- joining lists refuses too many items, or memory is wanting
abbrev pub fault_of : Fault → PackFault
fault_of fault.NoMemory = NoMemory
fault_of f = Size

-- ---- one node

-- the lane of a leaf: each number as it is read, so that a truth value is 0 or 1
abbrev pub leaf_lane : Column → Column
leaf_lane c = read_lane c.kind (size_of c) (at c)

-- z holds the items of these lists of items of y, one list after another
pub record IsJoined (y : Layout) (vs : List Value) (o : Column) (z : Layout) : Type 0 where
  pub typ : array_type z ≡ array_type y
  pub items : array_items z ≡ joined_items vs
  pub offsets : o ≡ lane_of kind.I64 (offsets 0 vs)

-- a column that was opened, and has not too many values
pub record IsColumn (t : DataType) (vs : List Value) (r : Opened) : Type 0 where
  pub kind : IsKindOf t r
  pub order : IsInOrder vs r
  pub few : nat_lt item_limit (length vs) ≡ false

-- true only where a number of items is more than a column may have
abbrev pub AreTooMany : ℕ → Bool → Type 0
AreTooMany n true = item_limit < n
AreTooMany n false = Unit {0}

-- true only where a column of these lists has too many values at a node below it
abbrev pub ReachTooMany : Listed → Bool → Type 0
ReachTooMany l true =
    (t : DataType) → (vs : List Value) → IsColumn t vs (Items l) → is_too_large t vs ≡ true
ReachTooMany l false = Unit {0}

-- ---- a node and those below it

-- their lanes are put behind the old ones
pub record IsPut (t : DataType) (vs : List Value) (old new : List Column) : Type 0 where
  pub lanes : new ≡ old ++ lanes_of (placed t vs)
  pub fits : is_too_large t vs ≡ false

abbrev pub placed_of : Layout → List Placed
placed_of y = placed (array_type y) (array_items y)

abbrev pub are_too_large : List Layout → Bool
are_too_large ys = list_any is_too_long (flat_map placed_of ys)

-- all but these arrays are put: what they hold are the last columns
pub record IsLeft (t : DataType) (vs : List Value) (old : List Column) (ys : List Layout)
    (new : List Column) : Type 0 where
  pub lanes : new ++ lanes_of (flat_map placed_of ys) ≡ old ++ lanes_of (placed t vs)
  pub fits : are_too_large ys ≡ is_too_large t vs
  pub count : all_nodes (map array_type ys) < nodes t
