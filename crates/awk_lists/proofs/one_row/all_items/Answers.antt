use Rattle.awk_base.proofs.Results.{if_ok}
use Rattle.awk_open.specs.Opens.{OpensLists}
use Rattle.awk_lists.specs.Listed.{IsWhole, AreFewItems}
use Rattle.awk_lists.proofs.OneRow.{lists_whole}
use Rattle.awk_lists.proofs.one_row.all_items.Goals as goal

pub returns-in-Items : goal.returns-in-Items
returns-in-Items g c =
    let opens : OpensLists c.in-Items.lists.class c.in-Items.lists.starts c.in-Items.lists.stops
    c.in-Items.lists.content
    c.args.x.now = rw c.in-Items.is at c.in_ok-open_array.ensures in
    if_ok (AreFewItems c.in-Items.lists.starts c.in-Items.lists.stops c.in-Items.lists.content)
    (IsWhole c.args.x.now)
    c.few_items.result
    (λ r h. lists_whole c.in-Items.lists.class c.in-Items.lists.starts c.in-Items.lists.stops
    c.in-Items.lists.content c.args.x.now r opens h) c.few_items.ensures
