-- The items of an array at places.
use Rattle.std.specs.Prelude.{◌≡◌, ℕ, ◌<◌, List, map, get_or, ℤ, option_map, Result, if◌then◌else◌}
use Rattle.std.specs.Prelude.{nat_lt}
use Rattle.awk_types.specs.DataType.{DataType, opt}
use Rattle.awk_types.specs.Value.{Value, null}
use Rattle.awk_types.specs.Datum.{Datum, arr}
use Rattle.awk_types.specs.Gives.{refused_or}
use Rattle.awk_types.specs.Simple.{simple, simple_value}
use Rattle.awk_types.specs.Limit.{limit}
use Rattle.awk_types.specs.Faults.{limit_fault}
use Rattle.awk_types.specs.declared.fault.Fault.{Fault}
use Rattle.awk_lanes.specs.declared.kind.Kind.{Kind}
use Rattle.awk_lanes.specs.declared.kind.Kind.TheVariants.{U32, I64}
use Rattle.awk_lanes.specs.Column.{Column}
use Rattle.awk_lanes.specs.Places.{size_of, place_at, option_place, option_place_at}
use Rattle.awk_layout.specs.Layout.{Layout}
use Rattle.awk_layout.specs.Valid.{len}
use Rattle.awk_layout.specs.Item.{item, at_option}
use Rattle.awk_layout.specs.Typing.{layout_type, array_type, array_items}

-- the item of an array at a place
abbrev pub array_item : Layout → ℕ → Value
array_item x i = simple_value (layout_type x) (item x i)

-- the items of a list at places, and null at each negative number
abbrev pub pick : List Value → List ℤ → List Value
pick vs zs = map (λ z. at_option (option_place z) (λ k. get_or vs k null)) zs

-- r is of the type of x, and has its items at places: as one list, and each by its place
pub record IsGathered (x : Layout) (p : Column) (r : Layout) : Type 0 where
  pub typ : array_type r ≡ array_type x
  pub items : array_items r ≡ pick (array_items x) p.items
  pub size : len r ≡ size_of p
  pub each : (j : ℕ) → j < size_of p → array_item r j ≡ array_item x (place_at p j)

-- the type of the items of an array and of nulls among them
abbrev pub optional_type : Layout → DataType
optional_type x = simple (opt (array_type x))

-- the items of an array at places and null at each negative number, unless the type is refused
abbrev pub picked_or_null : Layout → Column → Result Datum Fault
picked_or_null x p =
    refused_or (option_map limit_fault (limit (optional_type x)))
    (arr (optional_type x) (pick (array_items x) p.items))

-- r has the items of x at places, and null at each negative number, each by its place
pub record IsGatheredOpt (x : Layout) (p : Column) (r : Layout) : Type 0 where
  pub size : len r ≡ size_of p
  pub each : (j : ℕ) → j < size_of p →
      array_item r j ≡ at_option (option_place_at p j) (array_item x)

-- the kind of an index over n items
abbrev pub index_kind : ℕ → Kind
index_kind n = if nat_lt 4294967296 n then I64 else U32

-- places as an index over n items
abbrev pub index_over : ℕ → Column → Column
index_over n p = record { kind = index_kind n; items = p.items }
