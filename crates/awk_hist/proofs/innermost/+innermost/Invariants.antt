use Rattle.std.proofs.Common.{◌+◌, ◌*◌}
use Rattle.awk_types.specs.DataType.{depth}
use Rattle.awk_layout.specs.Typing.{array_type}
use Rattle.awk_hist.proofs.innermost.+innermost.Given as goal

abbrev pub decreases-innermost_of : goal.decreases-innermost_of
decreases-innermost_of g l = 2 * depth (array_type l.x.now) + 1

abbrev pub decreases-below_lists : goal.decreases-below_lists
decreases-below_lists g l = 2 * depth (array_type l.x.now)

abbrev pub decreases-below_option : goal.decreases-below_option
decreases-below_option g l = 2 * depth (array_type l.x.now)
