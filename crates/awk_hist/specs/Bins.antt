-- The histogram of a list: how many of its numbers lie in each interval between edges, and the
-- others.
use Rattle.std.specs.Prelude.{ℕ, ◌+◌, ℤ, pos, List, [], ◌∷◌, map, codes}
use Rattle.std.specs.List.{count_by}
use Rattle.awk_types.specs.DataType.{DataType, Name, leaf, var, rec, types_from}
use Rattle.awk_types.specs.Predicates.{is_null}
use Rattle.awk_types.specs.Value.{Value, int, list, row, values_from}
use Rattle.awk_types.specs.declared.primitive.Primitive.TheVariants.{I64}
use Rattle.awk_present.specs.Numbers.{numbers}
use Rattle.awk_bins.specs.Bins.{interval_counts, count_under, count_over}

abbrev pub bin_names : List Name
bin_names = codes "counts" ∷ codes "under" ∷ codes "over" ∷ codes "nulls" ∷ []

abbrev pub bin_types : List DataType
bin_types = var (leaf I64) ∷ leaf I64 ∷ leaf I64 ∷ leaf I64 ∷ []

abbrev pub bins_type : DataType
bins_type = rec bin_names (types_from bin_types)

abbrev pub count_value : ℕ → Value
count_value n = int (pos n)

abbrev pub count_nulls : List Value → ℕ
count_nulls vs = count_by is_null vs

-- with so many nulls told
abbrev pub bins_row : List ℤ → List ℤ → ℕ → Value
bins_row es zs nulls =
    row (values_from
    (list (values_from (map count_value (interval_counts es zs)))
    ∷ count_value (count_under es zs) ∷ count_value (count_over es zs) ∷ count_value nulls ∷ []))

-- for each interval, below the first edge and from the last one on how many numbers, and how many
-- nulls
abbrev pub bins : List ℤ → List Value → Value
bins es vs = bins_row es (numbers vs) (count_nulls vs)

-- the same with more nulls than those among the items
abbrev pub bins_and : ℕ → List ℤ → List Value → Value
bins_and more es vs = bins_row es (numbers vs) (count_nulls vs + more)
