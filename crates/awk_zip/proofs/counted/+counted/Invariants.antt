use Rattle.std.proofs.Common.{◌≡◌, ◌+◌, ◌*◌, drop, map}
use Rattle.awk_types.specs.DataType.{depth, depths, greatest, types_from}
use Rattle.awk_layout.specs.Typing.{array_type}
use Rattle.awk_zip.specs.Counted.{all_refused}
use Rattle.awk_zip.proofs.counted.+counted.Given as goal

abbrev pub decreases-is_large : goal.decreases-is_large
decreases-is_large g l = 4 * depth (array_type l.x.now) + 3

abbrev pub decreases-opened_large : goal.decreases-opened_large
decreases-opened_large g l = 4 * depth (array_type l.x.now) + 2

abbrev pub decreases-lists_large : goal.decreases-lists_large
decreases-lists_large g l = 4 * depth (array_type l.x.now) + 1

abbrev pub decreases-any_large : goal.decreases-any_large
decreases-any_large g l = 4 * greatest (depths (types_from (map array_type l.columns.now))) + 4

abbrev pub invariant-any_large-loop-i : goal.invariant-any_large-loop-i
invariant-any_large-loop-i g l = all_refused l.k (drop l.i l.columns) ≡ all_refused l.k l.columns
