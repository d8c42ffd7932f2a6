-- Numbers of lists, while a lane of them is made.
use Rattle.std.specs.Prelude.{◌≡◌, ℕ, ◌+◌, ◌<◌, ◌≤◌, ℤ, Bool, true, false, List, length}
use Rattle.std.specs.Prelude.{Option, Some, None}
use Rattle.std.specs.List.{range_with_len, flat_map}
use Rattle.awk_types.specs.Value.{Value}
use Rattle.awk_lanes.specs.Column.{Column}
use Rattle.awk_lanes.specs.Making.{Making}
use Rattle.awk_lanes.specs.Numbers.{int_of}
use Rattle.awk_lanes.specs.declared.kind.Kind.TheVariants.{I64}
use Rattle.awk_lanes.specs.declared.kind.Num.{Num}
use Rattle.awk_select.specs.Picks.{is_outside, take_place}

-- these numbers have room
abbrev pub HasRoom : List ℤ → Making → Type 0
HasRoom zs m = length m.items + length zs ≤ m.room

-- the numbers of the first n lists
abbrev pub IsPutLane : (ℕ → List ℤ) → ℕ → Column → Type 0
IsPutLane numbers n r = r ≡ record { kind = I64; items = flat_map numbers (range_with_len 0 n) }

-- some item of the first n lists is refused, or their numbers are a lane
abbrev pub IsPutOr : (ℕ → Bool → Type 0) → (ℕ → List ℤ) → ℕ → Option Column → Type 0
IsPutOr IsTested numbers n None = (i : ℕ) × (i < n) × IsTested i true
IsPutOr IsTested numbers n (Some r) =
    ((i : ℕ) → i < n → IsTested i false) × IsPutLane numbers n r

-- an item of an index names no place of n items, or f gives this number of its place
abbrev pub IsGiven : ℕ → (Option ℕ → ℤ) → Value → Option Num → Type 0
IsGiven n f w None = is_outside n w ≡ true
IsGiven n f w (Some x) = (is_outside n w ≡ false) × (int_of x ≡ f (take_place n w))
