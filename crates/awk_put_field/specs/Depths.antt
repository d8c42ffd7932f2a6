-- How deep a type of records is with a field of another type.
use Rattle.std.specs.Prelude.{ℕ, suc, ◌+◌, Bool, true, false, ◌||◌, nat_lt, Option, Some, None}
use Rattle.std.specs.Prelude.{if◌then◌else◌}
use Rattle.awk_types.specs.DataType.{Name, DataType, var, reg, rec, opt, depth, depths, greatest}
use Rattle.awk_types.specs.Parts.{item_of}
use Rattle.awk_types.specs.Simple.{is_option, present}
use Rattle.awk_types.specs.declared.fault.Fault.{Fault}
use Rattle.awk_types.specs.declared.fault.Fault.TheVariants as fault
use Rattle.awk_types.specs.declared.limit.TypeFault.{TypeFault}
use Rattle.awk_types.specs.declared.limit.TypeFault.TheVariants as refused
use Rattle.awk_put_field.specs.Field.{put}

abbrev pub one_if : Bool → ℕ
one_if b = if b then 1 else 0

-- of records of type t, optional or not, with a field of type u: a level that both share is
-- optional where one of them is
abbrev pub depth_over : Name → Bool → DataType → DataType → ℕ
depth_over n o (opt t) u = depth_over n true t u
depth_over n o (var t) u =
    one_if (o || is_option u) + suc (depth_over n false t (item_of (present u)))
depth_over n o (reg k t) u =
    one_if (o || is_option u) + suc (depth_over n false t (item_of (present u)))
depth_over n o (rec ns ts) u = one_if o + suc (greatest (put n ns (depth u) (depths ts)))
depth_over n o t u = 0

-- what is told where lists of a type u pass a limit
abbrev pub list_told : Name → DataType → DataType → TypeFault → Option Fault
list_told n t u refused.Depth = Some fault.Depth
list_told n t u refused.Size =
    Some (if nat_lt 60 (depth_over n false t (var u)) then fault.Depth else fault.Size)
list_told n t u refused.NoMemory = None
