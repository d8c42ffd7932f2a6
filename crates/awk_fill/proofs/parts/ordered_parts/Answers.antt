use Rattle.awk_open.specs.Opens.{OpensOption}
use Rattle.awk_fill.proofs.FillLaws.{holds_ordered}
use Rattle.awk_fill.proofs.parts.ordered_parts.Goals as goal

pub returns : goal.returns
returns g c =
    let op : OpensOption c.in-Option.index c.in-Option.content c.args.x.now =
    rw c.in-Option.is at c.in_ok-index.ensures in
    holds_ordered c.in-Option.index c.in-Option.content c.args.x.now op
