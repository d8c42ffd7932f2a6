-- Beyond the last group it is put nowhere.
use Rattle.std.proofs.Common.{arith, sym}
use Rattle.awk_unify.specs.View.{lift_of}
use Rattle.awk_merge_sides.specs.Groups.{groups_of}
use Rattle.awk_merge_sides.proofs.GroupLaws.{with_side_at-past}
use Rattle.awk_merge_rows.proofs.unions.put_column.Goals as goal

pub returns-then-tag-len-clause-groups : goal.returns-then-tag-len-clause-groups
returns-then-tag-len-clause-groups c =
    sym (with_side_at-past c.args.tag (groups_of c.args.groups.now) c.args.column.now
    (lift_of c.args.lift.now) (omega arith))
