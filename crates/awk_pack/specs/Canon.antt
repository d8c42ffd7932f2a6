-- Canonical packing: the form, the length and the lanes that a type and values have, made from the
-- columns alone.
use Rattle.std.specs.Prelude.{ℕ, Bool, nat_lt, List, length, Option, Some, None}
use Rattle.std.specs.Prelude.{Result, Ok, Err, if◌then◌else◌}
use Rattle.std.specs.List.{list_any, flat_map}
use Rattle.awk_types.specs.DataType.{DataType}
use Rattle.awk_types.specs.Value.{Value}
use Rattle.awk_types.specs.ItemLimit.{item_limit}
use Rattle.awk_lanes.specs.Column.{Column}
use Rattle.awk_form.specs.FormTree.{FormTree}
use Rattle.awk_pack.specs.Columns.{Placed, placed}
use Rattle.awk_pack.specs.Lanes.{lanes_at}
use Rattle.awk_pack.specs.PackedForm.{packed_form}
use Rattle.awk_pack.specs.declared.packed.PackFault.{PackFault}
use Rattle.awk_pack.specs.declared.packed.PackFault.TheVariants.{Size, NoMemory}

-- a packed array: its form, its length, and its lanes in the order of the form's buffers
pub record Pack : Type 0 where
  pub form : FormTree
  pub length : ℕ
  pub lanes : List Column

abbrev pub is_too_long : Placed → Bool
is_too_long p = nat_lt item_limit (length p.values)

-- a column has too many values
abbrev pub is_too_large : DataType → List Value → Bool
is_too_large t vs = list_any is_too_long (placed t vs)

-- the lanes of all nodes
abbrev pub lanes_of : List Placed → List Column
lanes_of ps = flat_map lanes_at ps

abbrev pub packed : DataType → List Value → Pack
packed t vs =
    record { form = packed_form 0 t; length = length vs; lanes = lanes_of (placed t vs) }

abbrev pub canon : DataType → List Value → Result Pack PackFault
canon t vs = if is_too_large t vs then Err Size else Ok (packed t vs)

-- a fault as `canon` has it; want of memory is free
abbrev pub pack_told : PackFault → Option PackFault
pack_told NoMemory = None
pack_told Size = Some Size
