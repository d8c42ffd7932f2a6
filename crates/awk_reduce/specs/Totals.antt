-- Which reducer a fold, a tally or an extreme is for.
use Rattle.awk_numbers.specs.declared.extremes.Extreme.{Extreme}
use Rattle.awk_numbers.specs.declared.extremes.Extreme.TheVariants.{Least, Greatest}
use Rattle.awk_numbers.specs.declared.folds.Fold.{Fold}
use Rattle.awk_numbers.specs.declared.folds.Fold.TheVariants as fold
use Rattle.awk_numbers.specs.declared.tallies.Tally.{Tally}
use Rattle.awk_numbers.specs.declared.tallies.Tally.TheVariants as tally
use Rattle.awk_reduce.specs.declared.reducer.Reducer.{Reducer}
use Rattle.awk_reduce.specs.declared.reducer.Reducer.TheVariants.{Sum, Prod, Min, Max}
use Rattle.awk_reduce.specs.declared.reducer.Reducer.TheVariants.{Argmin, Argmax, Any, All}
use Rattle.awk_reduce.specs.declared.reducer.Reducer.TheVariants.{Count, CountNonzero}

abbrev pub fold_reducer : Fold → Reducer
fold_reducer fold.Sum = Sum
fold_reducer fold.Product = Prod

abbrev pub tally_reducer : Tally → Reducer
tally_reducer tally.Items = Count
tally_reducer tally.Nonzero = CountNonzero
tally_reducer tally.Any = Any
tally_reducer tally.All = All

-- of the item itself
abbrev pub item_reducer : Extreme → Reducer
item_reducer Least = Min
item_reducer Greatest = Max

-- of its place
abbrev pub place_reducer : Extreme → Reducer
place_reducer Least = Argmin
place_reducer Greatest = Argmax
