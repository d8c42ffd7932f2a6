-- The faults that a reading tells.
use Rattle.std.specs.Prelude.{Option, Some, None, Result, Ok, Err}
use Rattle.awk_types.specs.Gives.{Gives}
use Rattle.awk_expr.specs.declared.fault.QueryFault.{QueryFault}
use Rattle.awk_expr.specs.declared.fault.QueryFault.TheVariants.{Json, Query, NoMemory}

-- a line is no JSON, or no line of a session
pub data Unread : Type 0 where
  json query : Unread

-- want of memory tells nothing
abbrev pub unread_told : QueryFault → Option Unread
unread_told Json = Some json
unread_told Query = Some query
unread_told NoMemory = None

abbrev pub or_query : {A : Type 0} → Option A → Result A Unread
or_query None = Err query
or_query (Some a) = Ok a

-- a call reads what is said, where `view` shows its values, and else answers that it is no query
abbrev pub Reads : {X Y : Type 0} → (X → Y) → Result X QueryFault → Option Y → Type 0
Reads view result said = Gives view unread_told result (or_query said)
