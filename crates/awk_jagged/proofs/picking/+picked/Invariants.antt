use Rattle.std.proofs.Common.{◌+◌, ◌*◌}
use Rattle.awk_types.specs.DataType.{depth}
use Rattle.awk_layout.specs.Typing.{array_type}
use Rattle.awk_jagged.proofs.ToldLaws.{AreToldTo}
use Rattle.awk_jagged.proofs.picking.+picked.Given as goal

abbrev pub decreases-picked : goal.decreases-picked
decreases-picked g l = 4 * depth (array_type l.ws.now.content) + 3

abbrev pub decreases-picked_level : goal.decreases-picked_level
decreases-picked_level g l = 4 * depth (array_type l.ws.now.content) + 2

abbrev pub decreases-picked_apart : goal.decreases-picked_apart
decreases-picked_apart g l = 4 * depth (array_type l.ws.now.content) + 1

abbrev pub decreases-told_of : goal.decreases-told_of
decreases-told_of g l = 4 * depth (array_type l.ws.now.content)

-- what is told of the pairs before this place
abbrev pub invariant-picked_apart-loop-i : goal.invariant-picked_apart-loop-i
invariant-picked_apart-loop-i g l = AreToldTo l.xs l.ws l.i l.outside
