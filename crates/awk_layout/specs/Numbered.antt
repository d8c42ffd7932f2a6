-- The numbers of a layout are such as its lanes can hold.
use Rattle.awk_lanes.specs.Ranges.{AreNumbers}
use Rattle.awk_layout.specs.Layout.{Layout, Layouts, fold, folds, flat}

abbrev both : Type 0 → Type 0 → Type 0
both p q = p × q

-- the numbers of a NumpyArray are of its kind, and those of another class are those of its contents
abbrev own_numbers : Layout → Type 0 → Type 0
own_numbers (flat c) below = AreNumbers c
own_numbers x below = below

-- each number of each NumpyArray is one of its kind
abbrev pub IsNumbered : Layout → Type 0
IsNumbered = fold (Unit {0}) both own_numbers

abbrev pub AreNumbered : Layouts → Type 0
AreNumbered = folds (Unit {0}) both own_numbers
