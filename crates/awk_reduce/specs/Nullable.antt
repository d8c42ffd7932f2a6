-- Lists of leaves of which some may be null, by a lane of numbers and a way there.
use Rattle.std.specs.Prelude.{ℕ, ◌≤◌, Option}
use Rattle.awk_types.specs.ItemLimit.{item_limit}
use Rattle.awk_lanes.specs.Column.{Column}
use Rattle.awk_columns.specs.Joined.{total}
use Rattle.awk_columns.specs.Lists.{Listed, AreLists}
use Rattle.awk_nullable_lists.specs.Nullable.{AreLeaves}

pub record AreLeafLists (l : Listed) (f : ℕ → Option ℕ) (n : ℕ) (c : Column) : Type 0 where
  pub lists : AreLists l.class l.starts l.stops l.content
  pub leaves : AreLeaves l.content f n c
  pub few : total l.starts l.stops l.content ≤ item_limit
