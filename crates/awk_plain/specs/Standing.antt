-- Values that are of their own type as they stand.
use Rattle.std.specs.Prelude.{◌≡◌, true, None}
use Rattle.serde_json.specs.Data.{Data}
use Rattle.awk_types.specs.DataType.{DataType}
use Rattle.awk_types.specs.Limit.{limit}
use Rattle.awk_plain.specs.IsPlain.{IsPlain}
use Rattle.awk_plain.specs.Plain.{plain_type}
use Rattle.awk_plain.specs.Suits.{suits}

-- the value's type is within the limits, and no part of the value is carried into it
pub record Stands (t : DataType) (d : Data) : Type 0 where
  pub typ : t ≡ plain_type d
  pub plain : IsPlain d
  pub suited : suits t d ≡ true
  pub within : limit t ≡ None
