-- Lists above an axis that lie over one another: what is made of them where they lie.
use Rattle.std.specs.Prelude.{◌≡◌, ℕ, ◌<◌, ◌≤◌, map, sum, length, true, Option, Some, None}
use Rattle.awk_types.specs.ItemLimit.{item_limit}
use Rattle.awk_lanes.specs.Column.{Column}
use Rattle.awk_layout.specs.Layout.{Layout}
use Rattle.awk_layout.specs.Layout.{lists as spanned}
use Rattle.awk_counts.specs.Counted.{spans}
use Rattle.awk_gather.specs.Arrays.{array_item}
use Rattle.awk_columns.specs.Columns.{list_items}
use Rattle.awk_columns.specs.Lists.{Listed}
use Rattle.awk_list_functions.specs.declared.causes.Spoil.TheVariants.{Size}
use Rattle.awk_list_functions.specs.declared.place.Reach.{Reach}
use Rattle.awk_list_functions.specs.ListFunction.{Giving, ListFunction, gives_lists}
use Rattle.awk_open.specs.Opens.{OpensLists}
use Rattle.awk_axis.specs.declared.lift.Mapped.{Mapped}
use Rattle.awk_axis.specs.declared.lift.Mapped.TheVariants as mapped
use Rattle.awk_axis.specs.declared.over.Count.{Count}
use Rattle.awk_axis.specs.declared.over.Count.TheVariants.{Few, Many, Unknown}
use Rattle.awk_axis.specs.Mapped.{IsLifted}

-- what is made of an array of these lists, if anything is
abbrev pub IsOver : ListFunction → Reach → Listed → Option Mapped → Type 0
IsOver f k l None = Unit {0}
IsOver f k l (Some m) =
    (x : Layout) → OpensLists l.class l.starts l.stops l.content x → IsLifted f k x m

-- how many items the lists of a column have together, each as often as other lists reach it
abbrev pub items_reached : Column → Column → Layout → ℕ
items_reached s t w = sum (map (λ i. length (list_items (array_item w i))) (spans s t))

-- whether a number of items is more than a column may have, where this is known
abbrev pub IsCount : ℕ → Count → Type 0
IsCount n Few = n ≤ item_limit
IsCount n Many = item_limit < n
IsCount n Unknown = Unit {0}

-- lists over what is given for their items, unless this has too many items; single values have none
abbrev pub IsLaid : Giving → Column → Column → Layout → Option Mapped → Type 0
IsLaid g s t w None = Unit {0}
IsLaid g s t w (Some (mapped.Spoiled why)) =
    (why ≡ Size) × (gives_lists g ≡ true) × (item_limit < items_reached s t w)
IsLaid g s t w (Some (mapped.Column z)) =
    (z ≡ spanned s t w) × (gives_lists g ≡ true → items_reached s t w ≤ item_limit)

-- one column
abbrev pub IsColumnOf : Layout → Option Mapped → Type 0
IsColumnOf z r = r ≡ Some (mapped.Column z)
