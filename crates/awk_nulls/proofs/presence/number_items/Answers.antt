use Rattle.awk_nulls.proofs.presence.number_items.Goals as goal

pub moved_items-requires-clause-opened : goal.moved_items-requires-clause-opened
moved_items-requires-clause-opened g c = rw c.in-Option.is at c.in_ok-index.ensures.opened
