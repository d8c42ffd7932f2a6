use Rattle.awk_merge.proofs.joining_rows.opened_lists.Goals as goal

pub returns : goal.returns
returns g c = (c.in-Items.lists.class, rw c.in-Items.is at c.in_ok-lists.ensures)
