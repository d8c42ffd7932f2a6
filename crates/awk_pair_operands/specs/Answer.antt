-- What a pairing answers.
use Rattle.std.specs.Prelude.{ℕ, Bool, not, List, Option, Result}
use Rattle.awk_types.specs.Datum.{Datum}
use Rattle.awk_types.specs.Gives.{refused_or}
use Rattle.awk_types.specs.Value.{Value}
use Rattle.awk_types.specs.declared.fault.Fault.{Fault}
use Rattle.awk_pair_operands.specs.Pairs.{pair_refused, pair_type, pair_values, some_array}
use Rattle.awk_frames.specs.Shape.{Shape, shape, ends}

-- whether what is paired is a single value, or the first fault
abbrev pub single_or_fault : Bool → Option ℕ → List Datum → Result Bool Fault
single_or_fault keep d ds = refused_or (pair_refused keep d ds) (not (some_array ds))

-- the lists and nulls that the data share
abbrev pub shared_shape : Bool → Option ℕ → List Datum → Shape
shared_shape keep d ds = shape (pair_type keep d ds) (pair_values keep d ds)

-- the rows of their items at the ends, in order
abbrev pub shared_ends : Bool → Option ℕ → List Datum → List Value
shared_ends keep d ds = ends (pair_type keep d ds) (pair_values keep d ds)
