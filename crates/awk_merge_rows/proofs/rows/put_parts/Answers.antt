use Rattle.std.proofs.Common.{◌<◌, None, arith, get_or, length}
use Rattle.awk_layout.specs.Valid.{len}
use Rattle.awk_unify.specs.View.{lift_of}
use Rattle.awk_merge_sides.specs.Groups.{groups_of}
use Rattle.awk_merge_rows.specs.Parts.{part_side}
use Rattle.awk_merge_rows.proofs.RowGroups.{part_side-at, put_next}
use Rattle.awk_merge_rows.proofs.rows.put_parts.Goals as goal

pub loop-j-preserved : goal.loop-j-preserved
loop-j-preserved g c =
    let n = len c.args.side.now.column in
    let f = lift_of c.args.side.now.lift in
    let ys = c.args.columns.now in
    let within : c.loop-j.j < length (groups_of c.args.groups.now) =
    omega (arith, c.loop-j-test.true, c.len-j-end.ensures) in
    record {
      counted = c.in_ok-push.ensures.counted;
      put = put_next (part_side n f ys) c.loop-j.j (groups_of c.args.groups.now)
          (groups_of c.loop-j.groups) (groups_of c.push.new.self) c.in_ok-part.part.column
          (lift_of c.in_ok-part.part.lift)
          (part_side-at _ n f ys c.loop-j.j (get_or c.args.sources.now c.loop-j.j None)
          c.in_ok-part.ensures (c.requires.sources.at c.loop-j.j within))
          within c.in_ok-push.ensures.groups c.loop-j.invariant.put;
    }
