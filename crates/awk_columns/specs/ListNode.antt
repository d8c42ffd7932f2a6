-- Lists of a class over their content, as one node.
use Rattle.std.specs.Prelude.{◌≡◌, ℕ, ◌*◌, ◌≤◌, Some, None}
use Rattle.awk_lanes.specs.Column.{Column}
use Rattle.awk_lanes.specs.Places.{place_at}
use Rattle.awk_layout.specs.Layout.{Layout, offset_lists, regular}
use Rattle.awk_columns.specs.ListClass.{Class}

-- offsets of a class: of a sized one each list has this length
abbrev pub AreEven : Class → Column → ℕ → Type 0
AreEven None o n = Unit {0}
AreEven (Some m) o n = (i : ℕ) → i ≤ n → place_at o i ≡ i * m

-- the node of lists of a class
abbrev pub list_layout : Class → ℕ → Column → Layout → Layout
list_layout None n o z = offset_lists o z
list_layout (Some m) n o z = regular m n z
