-- The faults of operations: that of a type that is refused, that of a limit, and what is told of
-- each.
use Rattle.std.specs.Prelude.{Option, Some, None, option_map, Bool, if◌then◌else◌}
use Rattle.awk_types.specs.DataType.{DataType}
use Rattle.awk_types.specs.Limit.{Limit, limit, depth_limit, size_limit}
use Rattle.awk_types.specs.declared.limit.TypeFault.{TypeFault}
use Rattle.awk_types.specs.declared.limit.TypeFault.TheVariants as refused
use Rattle.awk_types.specs.declared.fault.Fault.{Fault}
use Rattle.awk_types.specs.declared.fault.Fault.TheVariants.{Depth, Size, WrongType, NoMemory}

abbrev pub fault_of : TypeFault → Fault
fault_of refused.Depth = Depth
fault_of refused.Size = Size
fault_of refused.NoMemory = NoMemory

-- the fault of a limit
abbrev pub limit_fault : Limit → Fault
limit_fault depth_limit = Depth
limit_fault size_limit = Size

-- a fault as the definition has it; want of memory is free
abbrev pub fault_told : Fault → Option Fault
fault_told NoMemory = None
fault_told f = Some f

-- the fault of a type, unless it is allowed
abbrev pub wrong_unless : Bool → Option Fault
wrong_unless allowed = if allowed then None else Some WrongType

-- the fault of a type that passes a limit
abbrev pub limit_refused : DataType → Option Fault
limit_refused t = option_map limit_fault (limit t)
