use Rattle.awk_places.proofs.GroupLaws.{groups_put}
use Rattle.awk_places.proofs.maker.PlaceMaker.push.Goals as goal

pub invariant_of-self-2 : goal.invariant_of-self-2
invariant_of-self-2 c =
    groups_put c.self.inside.groups.items c.push.new.self.items c.group_of.result c.args.place
    c.requires c.group_of.ensures c.in_ok-push.ensures.items c.self.invariant
