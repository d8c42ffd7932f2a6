-- The written group is the old one with the column behind it.
use Rattle.std.proofs.Common.{arith}
use Rattle.std.proofs.lemmas.List.{length-map}
use Rattle.std.proofs.lemmas.Result.{on_err_weaker, on_ok_weaker}
use Rattle.awk_unify.specs.View.{lift_of}
use Rattle.awk_merge_sides.proofs.GroupLaws.{with_side_at-set, groups-same, counted-set}
use Rattle.awk_merge_sides.specs.Sides.{sides_of}
use Rattle.awk_merge_sides.proofs.groups.Groups.push.Goals as goal

pub returns-clause-groups : goal.returns-clause-groups
returns-clause-groups c =
    let ss = c.args.self.now.groups.items in
    on_ok_weaker c.push.result
    (with_side_at-set ss c.args.j c.index_mut.result.now c.push.new.self c.args.column
    (lift_of c.args.lift.now) (omega (arith, c.requires.within, length-map ss sides_of))
    c.index_mut.ensures.value) c.push.ensures.sides

pub returns-clause-counted : goal.returns-clause-counted
returns-clause-counted c =
    on_ok_weaker c.push.result
    (counted-set c.args.self.now.groups.items c.args.j c.push.new.self c.requires.counted)
    c.push.ensures.counted

pub returns-clause-err : goal.returns-clause-err
returns-clause-err c =
    let ss = c.args.self.now.groups.items in
    on_err_weaker c.push.result
    (groups-same ss c.args.j c.index_mut.result.now c.push.new.self
    (omega (arith, c.requires.within, length-map ss sides_of)) c.index_mut.ensures.value)
    c.push.ensures.err
