-- The faults that the calls of this crate tell.
use Rattle.std.specs.Prelude.{Option, Some, None}
use Rattle.awk_form.specs.declared.fault.FormWhy.{FormWhy}
use Rattle.awk_types.specs.Limit.{depth_limit, size_limit}
use Rattle.awk_types.specs.declared.limit.TypeFault.{TypeFault}
use Rattle.awk_types.specs.declared.limit.TypeFault.TheVariants as limit
use Rattle.awk_form.specs.Reading.{Refusal, broken, limited}
use Rattle.awk_form.specs.declared.fault.FormFault.{FormFault}
use Rattle.awk_form.specs.declared.fault.FormFault.TheVariants as fault
use Rattle.awk_form.specs.declared.fault.NodeFault.{NodeFault}
use Rattle.awk_form.specs.declared.fault.NodeFault.TheVariants.{Why, NoMemory}

-- the cause that a fault tells; want of memory tells none
abbrev pub why_told : NodeFault → Option FormWhy
why_told (Why why) = Some why
why_told NoMemory = None

-- a type that is refused is a form that is
abbrev pub fault_of : TypeFault → FormFault
fault_of limit.Depth = fault.Depth
fault_of limit.Size = fault.Size
fault_of limit.NoMemory = fault.NoMemory

-- the refusal that a fault tells
abbrev pub refusal_told : FormFault → Option Refusal
refusal_told (fault.Bad node why) = Some (broken (record { node = node; why = why }))
refusal_told fault.Depth = Some (limited depth_limit)
refusal_told fault.Size = Some (limited size_limit)
refusal_told fault.NoMemory = None

-- there is only one
abbrev pub unit : Unit {0} → Unit {0}
unit u = u
