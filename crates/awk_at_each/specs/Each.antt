-- The item at a place of each list that is directly inside the items of a datum.
use Rattle.std.specs.Prelude.{◌≡◌, ℕ, ◌+◌, ◌-◌, ◌<◌, ℤ, pos, negsuc, Bool, false, List, length}
use Rattle.std.specs.Prelude.{get_or}
use Rattle.std.specs.Prelude.{Option, Some, None, is_none, option_map, Result, if◌then◌else◌}
use Rattle.std.specs.List.{list_any}
use Rattle.awk_types.specs.Value.{Value, null}
use Rattle.awk_types.specs.Datum.{Datum}
use Rattle.awk_types.specs.declared.fault.Fault.{Fault}
use Rattle.awk_lanes.specs.Column.{Column}
use Rattle.awk_lanes.specs.Places.{size_of, place_at}
use Rattle.awk_lanes.specs.declared.kind.Kind.TheVariants.{I64}
use Rattle.awk_layout.specs.Item.{at_option}
use Rattle.awk_lanes.specs.Made.{lane_of}
use Rattle.awk_list_functions.specs.ListFunction.{ListFunction, singles}
use Rattle.awk_list_functions.specs.Lifting.{lift}
use Rattle.awk_list_functions.specs.declared.causes.Spoil.TheVariants.{Index}
use Rattle.awk_select.specs.Places.{place_in}

-- the item of a list at a place
abbrev pub item_in : ℤ → List Value → Value
item_in i vs = at_option (place_in (length vs) i) (λ k. get_or vs k null)

abbrev pub lacks_place : ℤ → List Value → Bool
lacks_place i vs = is_none (place_in (length vs) i)

-- it is refused where any list lacks the place
abbrev pub item_at : ℤ → ListFunction
item_at i = record {
  refusal = λ t. None;
  giving = singles (λ t. t) (λ t vs. item_in i vs);
  spoil = λ t ls. if list_any (lacks_place i) ls then Some Index else None;
}

-- the item at a place of each list at axis 1
abbrev pub at_each_of : ℤ → Datum → Result Datum Fault
at_each_of i d = lift (item_at i) (pos 1) d

-- ---- lists by their starts and stops

-- where in the content the item of list j lies
abbrev pub item_place : ℤ → Column → Column → ℕ → Option ℕ
item_place i s t j = option_map (λ k. place_at s j + k) (place_in (place_at t j - place_at s j) i)

-- what f gives at a place, and -1 at none
abbrev pub number_by : (ℕ → ℤ) → Option ℕ → ℤ
number_by f None = negsuc 0
number_by f (Some k) = f k

-- what stands at the item of list j
abbrev pub item_number : ℤ → Column → Column → (ℕ → ℤ) → ℕ → ℤ
item_number i s t f j = number_by f (item_place i s t j)

-- the first n lists have the place
abbrev pub AllHave : ℤ → Column → Column → ℕ → Type 0
AllHave i s t n = (j : ℕ) → j < n → is_none (item_place i s t j) ≡ false

-- what stands at the items of all lists as a lane, or none where some list lacks the place
abbrev pub AreItems : ℤ → Column → Column → (ℕ → ℤ) → Option Column → Type 0
AreItems i s t f None = (j : ℕ) × (j < size_of s) × (item_place i s t j ≡ None)
AreItems i s t f (Some p) =
    AllHave i s t (size_of s) × (p ≡ lane_of I64 (size_of s) (item_number i s t f))
