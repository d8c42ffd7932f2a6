-- The items of the column are among those of its group, which are fewer than 2^63.
use Rattle.std.proofs.Common.{arith}
use Rattle.awk_layout.specs.Laws.{len-fits}
use Rattle.awk_unify.specs.View.{lift_of}
use Rattle.awk_merge_sides.specs.Groups.{groups_of}
use Rattle.awk_merge_sides.specs.Lifts.{alternative_tag, alternative_carry}
use Rattle.awk_merge_sides.specs.Sides.{side_of}
use Rattle.awk_merge_rows.proofs.TargetLaws.{fits-put}
use Rattle.awk_merge_rows.proofs.UnionSides.{whole-side}
use Rattle.awk_merge_rows.proofs.unions.put_whole.Goals as goal

pub put_run-requires-clause-fits : goal.put_run-requires-clause-fits
put_run-requires-clause-fits c =
    let f = lift_of c.args.side.now.lift in
    let made = c.in_ok-target.ensures in
    omega (
      arith,
      c.len.ensures.len,
      fits-put c.args.side.now.column (alternative_carry f 0) (alternative_tag f 0)
          (groups_of c.args.groups.now) c.put_alternative.new.groups.groups.items
          c.in_ok-target.target
          made.groups made.counted (len-fits c.args.side.now.column c.len.ensures.valid)
          made.target,
    )

pub returns : goal.returns
returns c =
    let made = c.in_ok-target.ensures in
    whole-side (side_of c.args.side.now) c.args.groups.now c.put_alternative.new.groups
    c.args.made.now c.put_run.new.made c.in_ok-target.target c.len.result c.requires.single
    c.len.ensures.items made.groups made.counted made.target c.len.ensures.len
    c.put_run.ensures.tags c.put_run.ensures.index
