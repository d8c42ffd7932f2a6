use Rattle.awk_open.specs.Opens.{OpensOption}
use Rattle.awk_nulls.proofs.PresentLaws.{option_present}
use Rattle.awk_nulls.proofs.presence.ordered_items.Goals as goal

pub returns : goal.returns
returns g c =
    let op : OpensOption c.in-Option.index c.in-Option.content c.args.x.now =
    rw c.in-Option.is at c.in_ok-index.ensures in
    option_present c.in-Option.index c.in-Option.content c.args.x.now op
