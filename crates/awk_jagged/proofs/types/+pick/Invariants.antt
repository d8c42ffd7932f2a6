use Rattle.std.proofs.Common.{◌+◌, ◌*◌}
use Rattle.awk_types.specs.DataType.{depth}
use Rattle.awk_types.specs.View.{typ_of}
use Rattle.awk_jagged.proofs.types.+pick.Given as goal

abbrev pub decreases-pick_type : goal.decreases-pick_type
decreases-pick_type l = 3 * depth (typ_of l.u.now)

abbrev pub decreases-rows_type : goal.decreases-rows_type
decreases-rows_type l = 3 * depth (typ_of l.u.now) + 2

abbrev pub decreases-list_type : goal.decreases-list_type
decreases-list_type l = 3 * depth (typ_of l.u.now) + 1
