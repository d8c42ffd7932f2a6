use Rattle.awk_heights.proofs.level.open_level.Goals as goal

pub returns-in-Items : goal.returns-in-Items
returns-in-Items g c =
    c.lists_level.ensures c.args.x.now (rw c.in-Items.is at c.in_ok-opened.ensures.opened)
    c.requires
