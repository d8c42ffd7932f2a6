-- An array where a mask over it is of one truth value, and null elsewhere.
use Rattle.std.specs.Prelude.{Bool, List, map, Option, Some, None, option_map, Result, Err}
use Rattle.std.specs.Prelude.{if◌then◌else◌}
use Rattle.awk_types.specs.DataType.{DataType}
use Rattle.awk_types.specs.Datum.{Datum, arr}
use Rattle.awk_types.specs.Faults.{limit_fault, wrong_unless}
use Rattle.awk_types.specs.Gives.{refused_or, ◌or◌}
use Rattle.awk_types.specs.Limit.{limit}
use Rattle.awk_types.specs.Simple.{simple, simple_value}
use Rattle.awk_types.specs.Value.{Value}
use Rattle.awk_types.specs.declared.fault.Fault.{Fault}
use Rattle.awk_types.specs.declared.fault.Fault.TheVariants.{WrongType, Lengths}
use Rattle.awk_mask_pairs.specs.MaskValues.{masks, masked_type, masked_value, in_pairs}
use Rattle.awk_mask_pairs.specs.MaskValues.{lists_differ, differs}
use Rattle.awk_mask_pairs.specs.MaskTypes.{levels_refused}

abbrev pub lengths_refused : Bool → Option Fault
lengths_refused unequal = if unequal then Some Lengths else None

-- what types tell of items of type t under a mask of type u
abbrev pub types_refused : DataType → DataType → Option Fault
types_refused u t =
    wrong_unless (masks u t) or option_map limit_fault (limit (simple (masked_type u t)))

-- why items of type t are not masked by others of type u, where these values are made of them
abbrev pub masked_refused : DataType → List Value → DataType → List Value → List Value
    → Option Fault
masked_refused t vs u ms made =
    types_refused u t
    or (lengths_refused (lists_differ (differs u) ms vs) or levels_refused u made)

abbrev pub masked : DataType → List Value → DataType → List Value → Bool → Result Datum Fault
masked t vs u ms keep =
    let made = in_pairs (masked_value u keep) ms vs in
    let typ = masked_type u t in
    refused_or (masked_refused t vs u ms made) (arr (simple typ) (map (simple_value typ) made))

-- the items of an array where a mask over it is the truth value that is kept, and null elsewhere
abbrev pub put_mask_of : Datum → Datum → Bool → Result Datum Fault
put_mask_of (arr t vs) (arr u ms) keep = masked t vs u ms keep
put_mask_of x m keep = Err WrongType
