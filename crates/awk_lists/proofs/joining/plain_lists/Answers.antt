use Rattle.awk_base.proofs.Results.{if_ok}
use Rattle.awk_columns.specs.Joined.{IsJoined}
use Rattle.awk_open.specs.Opens.{OpensLists}
use Rattle.awk_lists.specs.Listed.{IsListed}
use Rattle.awk_lists.proofs.Ends.{lists_joined}
use Rattle.awk_lists.proofs.joining.plain_lists.Goals as goal

pub returns-in-Items : goal.returns-in-Items
returns-in-Items g c =
    let opens : OpensLists c.in-Items.lists.class c.in-Items.lists.starts c.in-Items.lists.stops
    c.in-Items.lists.content
    c.args.x.now = rw c.in-Items.is at c.in_ok-open_array.ensures in
    if_ok (IsJoined c.in-Items.lists.starts c.in-Items.lists.stops c.in-Items.lists.content)
    (IsListed c.args.x.now)
    c.joined.result
    (λ j h. lists_joined c.in-Items.lists.class c.in-Items.lists.starts c.in-Items.lists.stops
    c.in-Items.lists.content c.args.x.now j opens h) c.joined.ensures
