-- The items of a column beside those of another that are not null.
use Rattle.std.specs.Prelude.{ℕ, List, [], ◌∷◌, is_some, if◌then◌else◌}
use Rattle.awk_types.specs.Value.{Value, null}
use Rattle.awk_lanes.specs.Column.{Column}
use Rattle.awk_lanes.specs.Places.{option_place_at}

-- the second values, where the first are not null
abbrev pub beside_present : List Value → List Value → List Value
beside_present [] ws = []
beside_present (v ∷ vs) [] = []
beside_present (null ∷ vs) (w ∷ ws) = beside_present vs ws
beside_present (v ∷ vs) (w ∷ ws) = w ∷ beside_present vs ws

-- 1 where an index names an item, else 0
abbrev pub there_length : Column → ℕ → ℕ
there_length j i = if is_some (option_place_at j i) then 1 else 0
