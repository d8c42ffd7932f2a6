-- Whether the items of lists are as many as one column may have.
use Rattle.std.specs.Prelude.{◌≡◌, ℕ, ◌*◌, ◌<◌, ◌≤◌, Bool, true, false, Option, Some, None}
use Rattle.awk_types.specs.ItemLimit.{item_limit}
use Rattle.awk_lanes.specs.Column.{Column}
use Rattle.awk_layout.specs.Layout.{Layout}
use Rattle.awk_layout.specs.Valid.{len}
use Rattle.awk_columns.specs.Joined.{total}

-- true where lists have together no more items than the limit, false where they have more
abbrev pub AreFew : Column → Column → Layout → Bool → Type 0
AreFew s t y true = total s t y ≤ item_limit
AreFew s t y false = item_limit < total s t y

-- true where lists have together more items than what holds these, false where they have no more
abbrev pub AreOver : Column → Column → Layout → Bool → Type 0
AreOver s t y true = len y < total s t y
AreOver s t y false = total s t y ≤ len y

-- how many items n lists of one size have, or none where they are more than a column may have
abbrev pub IsEvenTotal : ℕ → ℕ → Option ℕ → Type 0
IsEvenTotal n size None = item_limit < n * size
IsEvenTotal n size (Some m) = (m ≡ n * size) × (m ≤ item_limit)
