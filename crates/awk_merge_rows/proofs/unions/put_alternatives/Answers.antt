use Rattle.std.proofs.Common.{◌∙◌}
use Rattle.awk_unify.specs.View.{lift_of}
use Rattle.awk_merge_sides.specs.Groups.{groups_of}
use Rattle.awk_merge_rows.proofs.TargetLaws.{put-next, targets-next}
use Rattle.awk_merge_rows.proofs.unions.put_alternatives.Goals as goal

pub loop-k-preserved : goal.loop-k-preserved
loop-k-preserved c =
    let f = lift_of c.args.side.now.lift in
    let old = groups_of c.loop-k.groups in
    let new = groups_of c.put_alternative.new.groups in
    let made = c.in_ok-put_alternative.ensures in (
      made.counted,
      put-next f c.args.contents.now c.loop-k.k c.get.result.now old new c.get.ensures made.groups
          ∙ c.loop-k.invariant.1,
      targets-next f c.args.contents.now c.loop-k.k c.get.result.now old new
          c.loop-k.targets.items c.push.new.self.items c.in_ok-put_alternative.field-0 c.get.ensures
          made.groups made.target c.in_ok-push.ensures.items ∙ c.loop-k.invariant.2,
    )
