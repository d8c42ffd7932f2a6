-- What types tell of picks row by row.
use Rattle.std.specs.Prelude.{◌≡◌, Bool, true, Option, Some, None, option_map, is_some, Result, Err}
use Rattle.std.specs.Prelude.{if◌then◌else◌}
use Rattle.awk_types.specs.DataType.{DataType, var}
use Rattle.awk_types.specs.Faults.{limit_refused}
use Rattle.awk_types.specs.Gives.{refused_or}
use Rattle.awk_types.specs.Simple.{simple}
use Rattle.awk_types.specs.declared.fault.Fault.{Fault}
use Rattle.awk_types.specs.declared.fault.Fault.TheVariants.{WrongType}
use Rattle.awk_jagged.specs.Jagged.{pick_type, is_jagged}

-- rows of what is picked of their items
abbrev pub list_pick : Option DataType → (DataType → Option DataType) → Option DataType
list_pick None inner = None
list_pick (Some t) inner = option_map var (inner t)

abbrev pub within_limits : Option DataType → Result (Unit {0}) Fault
within_limits None = Err WrongType
within_limits (Some r) = refused_or (limit_refused (simple r)) (tt {0})

-- whether items of the first type pick from items of the second one, within the limits of types
abbrev pub judged_pick : DataType → DataType → Result (Unit {0}) Fault
judged_pick u t = if is_jagged u then within_limits (pick_type u t) else Err WrongType

-- whether items of the first type pick from items of the second one
abbrev pub picks : DataType → DataType → Bool
picks u t = is_some (pick_type u t)

-- a type of what is picked that is within the limits
pub record AreJudged (u t : DataType) : Type 0 where
  pub rows : is_jagged u ≡ true
  pub typ : DataType
  pub is : pick_type u t ≡ Some typ
  pub within : limit_refused (simple typ) ≡ None
