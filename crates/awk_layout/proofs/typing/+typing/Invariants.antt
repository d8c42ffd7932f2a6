use Rattle.std.proofs.Common.{◌≡◌, ◌+◌, ◌*◌, take, map}
use Rattle.awk_types.specs.View.{typs_of}
use Rattle.awk_layout.specs.Layout.{height, heights, layouts_from}
use Rattle.awk_layout.specs.Typing.{layout_type}
use Rattle.awk_layout.proofs.typing.+typing.Given as goal

abbrev pub decreases-type_of : goal.decreases-type_of
decreases-type_of l = 2 * height l.x.now

-- a type is made before it is boxed
abbrev pub decreases-boxed_type : goal.decreases-boxed_type
decreases-boxed_type l = 2 * height l.x.now + 1

abbrev pub decreases-types_of : goal.decreases-types_of
decreases-types_of l = 2 * heights (layouts_from l.contents.now) + 1

abbrev pub invariant-types_of-loop-i : goal.invariant-types_of-loop-i
invariant-types_of-loop-i l = typs_of l.made ≡ map layout_type (take l.i l.contents)
