use Rattle.awk_columns.specs.Joined.{IsJoined}
use Rattle.awk_open.specs.Opens.{OpensLists}
use Rattle.awk_columns.specs.declared.lists.Joined.TheVariants as joined
use Rattle.awk_merge_lists.proofs.OpenedLists.{holds_joined}
use Rattle.awk_merge_lists.proofs.lists.lists_of.Goals as goal

pub returns-in-Items : goal.returns-in-Items
returns-in-Items g c =
    let o : OpensLists c.in-Items.lists.class c.in-Items.lists.starts c.in-Items.lists.stops
    c.in-Items.lists.content
    c.args.column.now = rw c.in-Items.is at c.in_ok-lists.ensures in
    let j : IsJoined c.in-Items.lists.starts c.in-Items.lists.stops c.in-Items.lists.content
    (joined.Lists c.in-Lists.offsets c.in-Lists.content) =
    rw c.in-Lists.is at c.in_ok-joined-in-Items.ensures in
    holds_joined c.in-Items.lists.class c.in-Items.lists.starts c.in-Items.lists.stops
    c.in-Items.lists.content
    c.args.column.now c.in-Lists.offsets c.in-Lists.content o j.1 c.len-n.result c.cut.result
    c.cut-in-Lists.result c.len-n.ensures.len c.cut.ensures.value c.cut-in-Lists.ensures.value
