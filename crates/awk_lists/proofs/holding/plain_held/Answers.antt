use Rattle.awk_open.specs.Opens.{OpensLists}
use Rattle.awk_lists.proofs.HeldLists.{opens_lengths}
use Rattle.awk_lists.proofs.holding.plain_held.Goals as goal

pub held_among-requires-clause-lengths : goal.held_among-requires-clause-lengths
held_among-requires-clause-lengths g c =
    let opens : OpensLists c.in-Items.lists.class c.in-Items.lists.starts c.in-Items.lists.stops
    c.in-Items.lists.content
    c.args.x.now = rw c.in-Items.is at c.in_ok-open_array.ensures in
    rw (c.starts.ensures, c.stops.ensures) (
    opens_lengths c.in-Items.lists.class c.in-Items.lists.starts c.in-Items.lists.stops
    c.in-Items.lists.content
    c.args.x.now opens)
