use Rattle.awk_open.specs.Opens.{Opens}
use Rattle.awk_open.specs.declared.opening.Opened.TheVariants as opened
use Rattle.awk_cast.proofs.level.open_level.Goals as goal

pub returns-in-Items : goal.returns-in-Items
returns-in-Items g c p =
    let o : Opens c.args.x.now (opened.Items c.in-Items.lists) =
    rw c.in-Items.is at c.in_ok-open_array.ensures in
    c.list_level.ensures p c.args.x.now o
