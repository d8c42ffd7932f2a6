use Rattle.std.proofs.Common.{arith}
use Rattle.awk_unify.specs.View.{lift_of}
use Rattle.awk_merge_lists.proofs.ListLaws.{put_fits}
use Rattle.awk_merge_lists.proofs.lists.ListMaker.put.Goals as goal

pub put_places-requires-clause-fits : goal.put_places-requires-clause-fits
put_places-requires-clause-fits g c =
    let h = put_fits c.args.self.now.sides c.push.new.self c.in_ok-starts.field-0.content
    (lift_of c.in_ok-items_lift.field-0) c.in_ok-push.ensures.sides c.requires.counted
    c.in_ok-push.ensures.counted in
    omega (arith, h, c.total-base.ensures, c.len-n.ensures.len)

pub put_places-requires-2-clause-fits : goal.put_places-requires-2-clause-fits
put_places-requires-2-clause-fits g c =
    let h = put_fits c.args.self.now.sides c.push.new.self c.in_ok-starts.field-0.content
    (lift_of c.in_ok-items_lift.field-0) c.in_ok-push.ensures.sides c.requires.counted
    c.in_ok-push.ensures.counted in
    omega (arith, h, c.total-base.ensures, c.len-n.ensures.len)
