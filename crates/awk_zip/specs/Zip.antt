-- Data zipped: a row of their items at each end of what they share, named or a tuple.
use Rattle.std.specs.Prelude.{ℕ, false, List, length, Option, Some, Result}
use Rattle.awk_types.specs.DataType.{Name, DataType, row_type, types_from}
use Rattle.awk_types.specs.Datum.{Datum}
use Rattle.awk_types.specs.Faults.{limit_refused}
use Rattle.awk_types.specs.Gives.{refused_or, ◌or◌}
use Rattle.awk_types.specs.ItemLimit.{too_many}
use Rattle.awk_types.specs.Value.{Value}
use Rattle.awk_types.specs.declared.fault.Fault.{Fault}
use Rattle.awk_frames.specs.Framed.{over_type}
use Rattle.awk_pair_operands.specs.Pairs.{below, datum_from, leaf_types, lengths_refused, pair_type}
use Rattle.awk_pair_operands.specs.Pairs.{pair_values, some_array}
use Rattle.awk_zip.specs.Counted.{lists_refused}

-- a row of the items' types at each end
abbrev pub zip_type : ℕ → Option (List Name) → List Datum → DataType
zip_type d names ds =
    over_type (pair_type false (Some d) ds)
    (row_type names (types_from (leaf_types (Some d) ds)))

abbrev pub zip_values : ℕ → List Datum → List Value
zip_values d ds = pair_values false (Some d) ds

-- the lists of the result at the first d axes
abbrev pub zip_sizes : ℕ → Option (List Name) → List Datum → Option Fault
zip_sizes d names ds =
    too_many (length (zip_values d ds))
    or lists_refused (below (Some d) ds) (zip_type d names ds) (zip_values d ds)

-- limits of the type, then lengths, then sizes
abbrev pub zip_refused : ℕ → Option (List Name) → List Datum → Option Fault
zip_refused d names ds =
    limit_refused (zip_type d names ds)
    or (lengths_refused false (Some d) ds or zip_sizes d names ds)

abbrev pub zip_of : ℕ → Option (List Name) → List Datum → Result Datum Fault
zip_of d names ds =
    refused_or (zip_refused d names ds)
    (datum_from (some_array ds) (zip_type d names ds) (zip_values d ds))
