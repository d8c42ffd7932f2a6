-- What loading answers: the layout that a form, a length and a container stand for, or why not.
use Rattle.std.specs.Prelude.{ℕ, ◌+◌, ◌*◌, ◌/◌, Bool, List, Option, Some, None, Result}
use Rattle.awk_types.specs.Gives.{refused_or, ◌or◌}
use Rattle.std.specs.Option.{option_map}
use Rattle.awk_types.specs.DataType.{Name}
use Rattle.awk_types.specs.Limit.{Limit, depth_limit, size_limit, limit}
use Rattle.awk_types.specs.Simple.{simple}
use Rattle.awk_types.specs.declared.limit.TypeFault.{TypeFault}
use Rattle.awk_types.specs.declared.limit.TypeFault.TheVariants as types
use Rattle.awk_lanes.specs.declared.kind.Kind.{Kind}
use Rattle.awk_lanes.specs.Column.{Column}
use Rattle.awk_lanes.specs.Numbers.{width}
use Rattle.awk_bits.specs.Bits.{bits}
use Rattle.awk_layout.specs.Layout.{Layout}
use Rattle.awk_store.specs.declared.fault.BufferWhy.{BufferWhy}
use Rattle.awk_form.specs.FormTree.{FormTree}
use Rattle.awk_form.specs.FormType.{type_of}
use Rattle.awk_valid.specs.Container.{Container, bytes_or_none, column_at}
use Rattle.awk_valid.specs.Loaded.{layout_of}
use Rattle.awk_valid.specs.Broken.{Refusal, too_deep, too_many, buffer, invalid, bytes_break}
use Rattle.awk_valid.specs.Broken.{broken}
use Rattle.awk_valid.specs.declared.fault.LoadFault.{LoadFault}
use Rattle.awk_valid.specs.declared.fault.LoadFault.TheVariants as fault

-- a type of too many nodes or alternatives is refused as a node of too many items is
abbrev pub limited : Limit → Refusal
limited depth_limit = too_deep
limited size_limit = too_many

-- there is nothing to tell where nothing breaks
abbrev pub judged : Option Refusal → Result (Unit {0}) Refusal
judged b = refused_or b tt

-- why a form does not load: the limits of its type come before the breaks of the walk
abbrev pub refusal : FormTree → ℕ → Container → Option Refusal
refusal f n c = option_map limited (limit (simple (type_of f))) or broken f n c

abbrev pub loading : FormTree → ℕ → Container → Result Layout Refusal
loading f n c = refused_or (refusal f n c) (layout_of f n c)

-- the first n numbers of what there is of a key
abbrev pub lane_said : Bool → Name → Kind → ℕ → Result (List ℕ) BufferWhy → Result Column Refusal
lane_said big key k n r =
    refused_or (bytes_break key (n * width k) r) (column_at big k n (bytes_or_none r))

-- the first n bits of what there is of a key
abbrev pub bits_said : Name → Bool → ℕ → Result (List ℕ) BufferWhy → Result (List Bool) Refusal
bits_said key lsb_order n r =
    refused_or (bytes_break key ((n + 7) / 8) r) (bits lsb_order (bytes_or_none r) 0 n)

-- the refusal that a fault tells; want of memory tells none
abbrev pub told : LoadFault → Option Refusal
told (fault.Buffer key why) = Some (buffer key why)
told (fault.Invalid node rule place) = Some (invalid node rule place)
told fault.Depth = Some too_deep
told fault.Size = Some too_many
told fault.NoMemory = None

-- the fault of loading that a fault of the type is
abbrev pub fault_of : TypeFault → LoadFault
fault_of types.Depth = fault.Depth
fault_of types.Size = fault.Size
fault_of types.NoMemory = fault.NoMemory
