-- Columns whose nulls are filled.
use Rattle.std.specs.Prelude.{◌≡◌, ℕ, ◌<◌, ◌^◌, ◌++◌, ℤ, pos, map, Option, Some, None, Result}
use Rattle.std.specs.List.{AllByRecursion}
use Rattle.awk_types.specs.DataType.{DataType, opt}
use Rattle.awk_types.specs.Datum as shown
use Rattle.awk_types.specs.Faults.{fault_told}
use Rattle.awk_types.specs.Gives.{Gives, Told}
use Rattle.awk_types.specs.Has.{Has}
use Rattle.awk_types.specs.Simple.{simple_value}
use Rattle.awk_types.specs.Value.{Value}
use Rattle.awk_types.specs.declared.fault.Fault.{Fault}
use Rattle.awk_lanes.specs.Column.{Column}
use Rattle.awk_lanes.specs.Places.{size_of, at, option_place_at, IsOptionalIndex}
use Rattle.awk_lanes.specs.declared.kind.Kind.TheVariants.{I64}
use Rattle.awk_layout.specs.Datum.{datum_of}
use Rattle.awk_layout.specs.Filler.{Filler}
use Rattle.awk_layout.specs.Item.{at_option}
use Rattle.awk_layout.specs.Layout.{Layout}
use Rattle.awk_layout.specs.Typing.{array_type, array_items}
use Rattle.awk_layout.specs.Valid.{len, IsValid}
use Rattle.awk_layout.specs.declared.datum.Datum.{Datum}
use Rattle.awk_gather.specs.Arrays.{array_item}
use Rattle.awk_lanes.specs.Made.{lane_of}
use Rattle.awk_columns.specs.ListClass.{Class}
use Rattle.awk_list_functions.specs.Made.{IsMade}
use Rattle.awk_list_functions.specs.declared.function.Made.{Made}
use Rattle.awk_unify.specs.Carry.{carried}
use Rattle.awk_unify.specs.Unification.{Unification}
use Rattle.awk_fill.specs.FillNone.{filled, filled_type, fill_none_function, no_filler}

-- an array of a type whose first item is the value
pub record IsFirst (t : DataType) (v : Value) (y : Layout) : Type 0 where
  pub typ : array_type y ≡ t
  pub some : 0 < len y
  pub first : array_item y 0 ≡ v

-- two columns one after another, as items of the type that theirs unify to
pub record IsPair (u : Unification) (x y z : Layout) : Type 0 where
  pub valid : IsValid z
  pub typ : array_type z ≡ u.typ
  pub has : AllByRecursion (Has (array_type z)) (array_items z)
  pub items : array_items z
      ≡ map (carried u.left) (array_items x) ++ map (carried u.right) (array_items y)

-- where an item of an option is, and a place of its own for null
abbrev pub place_or : ℕ → Option ℕ → ℤ
place_or n None = pos n
place_or n (Some k) = pos k

abbrev pub places_or : ℕ → Column → Column
places_or n j = lane_of I64 (size_of j) (λ i. place_or n (option_place_at j i))

-- the number there, or another for null
abbrev pub number_or : ℤ → Column → Option ℕ → ℤ
number_or z c None = z
number_or z c (Some k) = at c k

abbrev pub filled_lane : ℤ → Column → Column → Column
filled_lane z c j = lane_of I64 (size_of j) (λ i. number_or z c (option_place_at j i))

-- the items of x are those of y by an index, and null where it is negative
pub record HoldsOption (j : Column) (y x : Layout) : Type 0 where
  pub typ : array_type x ≡ opt (array_type y)
  pub size : size_of j ≡ len x
  pub fits : size_of j < 2 ^ 63
  pub index : IsOptionalIndex j (len y)
  pub valid : IsValid y
  pub items : (i : ℕ) → i < len x → array_item x i ≡ at_option (option_place_at j i) (array_item y)

-- n items of a type, with the nulls filled of those that are given by place
pub record AreFilled (f : Filler) (t : DataType) (n : ℕ) (value : ℕ → Value) (y : Layout) : Type 0
  where
    pub valid : IsValid y
    pub size : len y ≡ n
    pub typ : array_type y ≡ filled_type f t
    pub items : (i : ℕ) → i < n → array_item y i ≡ filled f t (value i)
    -- simplifying changes nothing
    pub stays : (i : ℕ) → i < n → simple_value (array_type y) (array_item y i) ≡ array_item y i

-- an array with its nulls filled
abbrev pub IsFilled : Filler → Layout → Layout → Type 0
IsFilled f x y = AreFilled f (array_type x) (len x) (array_item x) y

-- the items of an option, by its index and what is present
abbrev pub IsFilledOption : Filler → Column → Layout → Layout → Type 0
IsFilledOption f j x y =
    AreFilled f (opt (array_type x)) (size_of j)
    (λ i. at_option (option_place_at j i) (array_item x)) y

-- the fault for an answer that was to fill nulls with what is no filler
abbrev pub IsRefused : Result Datum Fault → Fault → Type 0
IsRefused answer fault =
    (said : Result shown.Datum Fault) → Gives datum_of fault_told answer said
    → Told (fault_told fault) (no_filler said)

-- what is made of lists, whatever fills nulls
abbrev pub AreKept : Class → Column → Column → Layout → Made → Type 0
AreKept class s t y m = (f : Filler) → IsMade (fill_none_function f) class s t y m
